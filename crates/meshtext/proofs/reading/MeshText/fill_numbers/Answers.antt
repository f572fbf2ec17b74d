-- At the loop's end the places are these numbers.
use mathlib.Core.Path.{refl}
use Rattle.tables.proofs.FillLaws.{filled_tabulate}
use Rattle.meshtext.proofs.reading.MeshText.fill_numbers.Goals as goal

pub returns : goal.returns
returns c = filled_tabulate _ _ _ _ _ c.loop-i.auto.table c.loop-i-test.false refl c.loop-i.invariant
