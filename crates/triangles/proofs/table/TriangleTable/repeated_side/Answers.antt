-- `repeated_side` asks the positions in order.
use Rattle.std.proofs.Common.{rules, tests, refl}
use lib.ListN.{length}
use Rattle.mesh.specs.Verdict.{repeat_fault}
use Rattle.mesh.proofs.Ranges.{lowest_from_find}
use native.Mathlib.Omega.{arith}
use Rattle.triangles.proofs.table.TriangleTable.repeated_side.Goals as goal

pub returns : goal.returns
returns c =
    let ts = c.args.self.corners.now in
    lowest_from_find (repeat_fault ts) 0 (length ts) (λ k l. absurd (omega arith)) _ _ _ c.find.ensures.ran refl (λ x b q k. search (rules, tests))
