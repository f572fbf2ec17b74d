-- The places passed hold what `service_at` gives for them.
use Rattle.mesh.specs.Sides.{third}
use Rattle.mesh.specs.Array.{service_at}
use Rattle.tables.proofs.FillLaws.{FilledBelow}
use Rattle.array.proofs.accepted.Accepted.fill_service.Given as goal

abbrev pub invariant-loop-j : goal.invariant-loop-j
invariant-loop-j l = FilledBelow (service_at (third l.self.sided.triangles.now) l.self.sided.wood.now) l.j l.service
