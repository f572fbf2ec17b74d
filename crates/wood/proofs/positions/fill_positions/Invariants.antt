-- `fill_positions` passes over the sides: each edge holds the last position that it was seen to run along, which at the end is its only one.
use Prim.Native.Nat.{ℕ}
use mathlib.Core.Path.{◌≡◌}
use lib.ListN.{length}
use Rattle.mesh.specs.Limits.{at}
use Rattle.wood.proofs.PositionLaws.{seen_at}
use Rattle.wood.proofs.positions.fill_positions.Given as goal

abbrev pub invariant-loop-p : goal.invariant-loop-p
invariant-loop-p l = (length l.positions ≡ length l.initial.positions) × ((e : ℕ) → at l.positions e ≡ seen_at l.ts l.ws e l.p)
