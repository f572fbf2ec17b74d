-- At the loop's end the places are the service bytes.
use Rattle.mesh.specs.Array.{service_of}
use Rattle.tables.proofs.FillLaws.{filled_tabulate}
use Rattle.array.proofs.accepted.Accepted.fill_service.Goals as goal

pub returns : goal.returns
unfolding service_of
returns c = filled_tabulate _ _ _ _ _ c.loop-j.auto.service c.loop-j-test.false c.requires c.loop-j.invariant
