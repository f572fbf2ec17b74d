-- At the loop's end the places are what the text says.
use Rattle.tables.proofs.FillLaws.{filled_tabulate}
use Rattle.arraytext.specs.ArrayText.{references_in}
use Rattle.arraytext.proofs.reading.ArrayText.read_references.Goals as goal

pub returns : goal.returns
unfolding references_in
returns c = filled_tabulate _ _ _ _ _ c.loop-i.auto.references c.loop-i-test.false c.requires c.loop-i.invariant
