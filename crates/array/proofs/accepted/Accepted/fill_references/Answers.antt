-- At the loop's end the places are the references.
use Rattle.mesh.specs.Array.{references_by, references_of}
use Rattle.tables.proofs.FillLaws.{filled_tabulate}
use Rattle.array.proofs.accepted.Accepted.fill_references.Goals as goal

pub returns : goal.returns
unfolding references_of references_by
returns c = filled_tabulate _ _ _ _ _ c.loop-i.auto.references c.loop-i-test.false c.requires c.loop-i.invariant
