-- `unjoined_edge` is a search over all edges: one that joins no two neighbours has no position.
use Rattle.std.proofs.Common.{rules, tests, refl, ap, ◌∙◌}
use mathlib.Core.Bool.{◌&&◌}
use Prim.Native.Nat.{ℕ}
use lib.ListN.{length}
use lib.Dec.{leb}
use Rattle.mesh.specs.Search.{lowest}
use Rattle.mesh.specs.Limits.{at}
use Rattle.mesh.specs.Wood.{used}
use Rattle.mesh.proofs.Ranges.{lowest_from_find}
use Rattle.tables.proofs.SidedLaws.{meshed}
use Rattle.wood.proofs.PositionLaws.{unplaced}
use native.Mathlib.Omega.{arith}
use Rattle.wood.proofs.positions.unjoined_edge.Goals as goal

pub returns : goal.returns
returns c =
    let m = c.args.mesh.now in
    let p = λ (e : ℕ). used e && leb (length m.triangles.now) (at m.positions.now e) in
    lowest_from_find p 0 c.edges.result (λ k l. absurd (omega arith)) _ _ _ c.find.ensures.ran refl (λ x b q k. search (rules, tests)) ∙
    ap (lowest p) c.edges.ensures ∙ unplaced _ _ _ _ (meshed m) m.position_table
