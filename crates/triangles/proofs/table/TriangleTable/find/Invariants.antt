-- `find` passes the positions in order: at each loop's head none below it is the side, and it leaves at the first that is.
use Prim.Native.Nat.{ℕ, ◌+◌, ◌*◌, ◌<◌}
use mathlib.Core.Path.{◌≡◌}
use mathlib.Core.Bool.{false}
use Rattle.std.proofs.Common.{None}
use Rattle.mesh.specs.Sides.{is_side}
use Rattle.triangles.proofs.table.TriangleTable.find.Given as goal

abbrev pub invariant-loop-k : goal.invariant-loop-k
invariant-loop-k l = (l.found ≡ None) × ((j : ℕ) → j < 3 * l.t + l.k → is_side l.self.corners.now l.side.from l.side.to j ≡ false)

abbrev pub invariant-triangles : goal.invariant-triangles
invariant-triangles l = (l.found ≡ None) × ((j : ℕ) → j < 3 * l.t → is_side l.self.corners.now l.side.from l.side.to j ≡ false)
