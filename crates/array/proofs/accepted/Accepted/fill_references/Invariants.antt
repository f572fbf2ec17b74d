-- The places passed hold what `reference_at` gives for them.
use Rattle.mesh.specs.Sides.{third}
use Rattle.mesh.specs.Array.{reference_at}
use Rattle.tables.proofs.FillLaws.{FilledBelow}
use Rattle.array.proofs.accepted.Accepted.fill_references.Given as goal

abbrev pub invariant-loop-i : goal.invariant-loop-i
invariant-loop-i l = FilledBelow (reference_at (third l.self.sided.triangles.now) l.self.sided.wood.now) l.i l.references
