-- `pair_sides` passes the positions in order: each of those passed has its reverse, and `twins` holds its position.
use Prim.Native.Nat.{ℕ, ◌<◌}
use mathlib.Core.Path.{◌≡◌}
use mathlib.Core.Bool.{false}
use Rattle.mesh.specs.Search.{painted}
use Rattle.mesh.specs.Paired.{twin}
use Rattle.mesh.specs.Verdict.{reverse_fault}
use Rattle.triangles.proofs.table.TriangleTable.pair_sides.Given as goal

abbrev pub invariant-loop-p : goal.invariant-loop-p
invariant-loop-p l =
    (l.twins ≡ painted (twin l.self.corners.now) l.p l.initial.twins) ×
    ((j : ℕ) → j < l.p → reverse_fault l.self.corners.now j ≡ false)
