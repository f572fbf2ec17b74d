-- `find` passes the positions in order: at each loop's head none below it is the side, and it leaves at the first that is.
use Prim.Native.Nat.{◌+◌, ◌*◌}
use mathlib.Core.Path.{◌≡◌, sym, ◌∙◌}
use lib.ListN.{length}
use borrow.Author.Count.{below_more}
use Rattle.mesh.specs.Sides.{from, to, is_side}
use Rattle.mesh.proofs.Positions.{is_side_of}
use Rattle.mesh.proofs.Search.{lowest_at, lowest_none}
use Rattle.triangles.proofs.CornerLaws.{corner_is, after_is, three_each}
use Rattle.triangles.proofs.SearchLaws.{not_from, not_to}
use native.Mathlib.Omega.{arith}
use Rattle.triangles.proofs.table.TriangleTable.find.Goals.{After-after, After-corner, else-corner-side-via-then-corner-side+else-after-side, else-corner-side-via-else-corner-side}
use Rattle.triangles.proofs.table.TriangleTable.find.Goals as goal

from_here : (c : After-corner) → c.corner.result ≡ from c.args.self.corners.now (3 * c.triangles.t + c.loop-k.k)
from_here c =
    corner_is c.args.self.corners.now _ _ c.triangle-triangle.ensures c.loop-k.k (3 * c.triangles.t + c.loop-k.k) _ (omega arith) c.corner.ensures

to_here : (c : After-after) → c.after.result ≡ to c.args.self.corners.now (3 * c.triangles.t + c.loop-k.k)
to_here c =
    after_is c.args.self.corners.now _ _ c.triangle-triangle.ensures c.loop-k.k (3 * c.triangles.t + c.loop-k.k) _ (omega arith) c.after.ensures

pub loop-k-preserved : goal.loop-k-preserved
loop-k-preserved c =
    let here = (goal.at.loop-k-preserved c).After-corner in
    let ts = c.args.self.corners.now in
    let side = c.args.side in
    let p = 3 * c.triangles.t + c.loop-k.k in (
      c.loop-k.invariant.0,
      λ j h. below_more _ p c.loop-k.invariant.1
          (elim c.else-corner-side.branch [
            | else-corner-side-via-then-corner-side+else-after-side w ↦
                not_to ts side.from side.to p _ (after_is ts _ _ c.triangle-triangle.ensures c.loop-k.k p _ (omega arith) w.after.ensures) w.if-after-side.false
            | else-corner-side-via-else-corner-side w ↦ not_from ts side.from side.to p _ (from_here here) w.if-corner-side.false
          ]) j (omega arith),
    )

pub returns-after-triangles : goal.returns-after-triangles
returns-after-triangles c =
    let table = c.args.self in
    let side = c.args.side in
    let t = three_each table.size.vertices (length table.corners.now) table.whole in
    c.triangles.invariant.0 ∙
    sym (lowest_none (is_side table.corners.now side.from side.to) (length table.corners.now) (λ j h. c.triangles.invariant.1 j (omega (arith, c.many-t-end.ensures))))

pub returns-then-after-side : goal.returns-then-after-side
returns-then-after-side c =
    let p = goal.at.returns-then-after-side c in
    let ts = c.args.self.corners.now in
    let side = c.args.side in
    sym (lowest_at (is_side ts side.from side.to) (length ts) (3 * c.triangles.t + c.loop-k.k) (omega arith)
    (is_side_of ts side.from side.to (3 * c.triangles.t + c.loop-k.k) (sym (from_here p.After-corner) ∙ c.if-corner-side.true)
    (sym (to_here p.After-after) ∙ c.if-after-side.true)) c.loop-k.invariant.1)
