-- A new table: one that is all marks reads as the mark everywhere, past its end too, and a part from the front has the length asked.
use Prim.Native.Nat.{ℕ, zero, suc, ◌≤◌}
use native.Mathlib.Omega.{arith}
use mathlib.Core.Path.{◌≡◌, refl, sym}
use lib.ListN.{length, take, replicate, length-replicate}
use lib.Seq.{length-take-le}
use Rattle.mesh.specs.Limits.{at, unused_mark}

pub all_marked : (m i : ℕ) → at (replicate m unused_mark) i ≡ unused_mark
all_marked zero i = refl
all_marked (suc m) zero = refl
all_marked (suc m) (suc i) = all_marked m i

pub prefix_long : (k m x : ℕ) → k ≤ m → k ≡ length (take k (replicate m x))
prefix_long k m x l = sym (length-take-le k (replicate m x) (omega (arith, length-replicate m x)))
