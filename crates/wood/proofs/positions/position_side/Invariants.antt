-- `position_side` asks the three edges of the side's source.
use mathlib.Core.Path.{◌≡◌}
use Prim.Native.Nat.{ℕ}
use Rattle.mesh.specs.Limits.{at}
use Rattle.wood.proofs.PositionLaws.{sided_at}
use Rattle.wood.proofs.positions.position_side.Given as goal

abbrev pub invariant-loop-e : goal.invariant-loop-e
invariant-loop-e l = (i : ℕ) → at l.positions i ≡ sided_at l.ts l.ws l.p l.initial.positions l.e i
