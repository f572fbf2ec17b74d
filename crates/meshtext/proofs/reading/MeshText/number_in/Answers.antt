-- `number_in` reads the number where its frame has its digits.
use mathlib.Core.Path.{◌∙◌}
use Rattle.meshtext.proofs.ReadingLaws.{number_read}
use Rattle.meshtext.proofs.reading.MeshText.number_in.Goals as goal

pub returns : goal.returns
returns c =
    let t = c.args.self.now in
    c.number_at.ensures ∙ number_read t.text.now t.text_is c.args.q c.requires
