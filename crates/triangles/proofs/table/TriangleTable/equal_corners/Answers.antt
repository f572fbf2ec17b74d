-- `equal_corners` asks each triangle for its three corners.
use Rattle.std.proofs.Common.{rules, tests, ◌+◌, ◌/◌, ◌%◌}
use mathlib.Core.Path.{ap, ◌∙◌}
use lib.ListN.{length, get_or}
use lib.Dec.{eqb}
use Rattle.mesh.specs.Search.{some}
use Rattle.mesh.specs.Verdict.{equal_fault}
use Rattle.mesh.proofs.Ranges.{some_from_any}
use Rattle.tables.specs.Corners.{corners_of}
use Rattle.triangles.proofs.CornerLaws.{by_triangles, equal_test, three_each}
use native.Mathlib.Omega.{arith}
use Rattle.triangles.proofs.table.TriangleTable.equal_corners.Goals as goal

pub returns : goal.returns
returns c =
    let table = c.args.self in
    let ts = table.corners.now in
    some_from_any (λ t. some (λ k. eqb (get_or (corners_of ts t) k 0) (get_or (corners_of ts t) ((k + 1) % 3) 0)) 3) 0 (length ts / 3) (λ k l. absurd (omega arith)) _ _ _
    c.any.ensures.ran (ap (λ m. record { start = 0; end = m }) c.many.ensures) (λ x b q k. search (rules, tests)) ∙
    by_triangles (equal_fault ts) _ (equal_test ts) (length ts / 3) ∙
    ap (some (equal_fault ts)) (three_each table.size.vertices (length ts) table.whole)
