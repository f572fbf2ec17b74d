-- The places passed hold what the text says there.
use Rattle.tables.proofs.FillLaws.{FilledBelow}
use Rattle.arraytext.specs.ArrayText.{reference_in}
use Rattle.arraytext.proofs.reading.ArrayText.read_references.Given as goal

abbrev pub invariant-loop-i : goal.invariant-loop-i
invariant-loop-i l = FilledBelow (reference_in l.self.text.now) l.i l.references
