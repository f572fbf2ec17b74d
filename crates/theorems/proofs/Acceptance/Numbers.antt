-- Each number stands for its sentences: the ties of the numbers, with what they rest on read off the rungs before.
use Prim.Native.Nat.{ℕ, ◌-◌, ◌*◌, ◌≤◌}
use mathlib.Core.Path.{◌≡◌, refl}
use mathlib.Core.List.{List}
use mathlib.Core.Bool.{true, false}
use native.Mathlib.Omega.{arith}
use lib.ListN.{length}
use Rattle.mesh.specs.Limits.{most_vertices, unused_mark, wood_length}
use Rattle.mesh.specs.Paired.{Paired}
use Rattle.mesh.specs.Ladder.{numbers, NoneBefore}
use Rattle.mesh.specs.Verdict.{ladder}
use Rattle.mesh.proofs.Limits.{in_range, range_in}
use Rattle.mesh.proofs.Paired.{paired}
use Rattle.mesh.proofs.Ladder.{earlier, earlier_through, free_before}
use Rattle.theorems.specs.Faults.{fault}
use Rattle.theorems.specs.Numbers.{Numbers}
use Rattle.theorems.proofs.Acceptance.Table.{tied_2, tied_3, tied_4, tied_5, tied_6, tied_7, tied_8}
use Rattle.theorems.proofs.Acceptance.Edges.{tied_9, tied_10, tied_11}
use Rattle.theorems.proofs.Acceptance.Rules.{tied_12, tied_13}

-- what the rungs up to 6 leave, where they stand before k
module _ (n : ℕ) (ts ws : List ℕ) {k : ℕ} (B : NoneBefore k (ladder n ts ws)) (later : earlier 6 k (numbers (ladder n ts ws)) ≡ true) where
  gone : (i : ℕ) → earlier i 6 (numbers (ladder n ts ws)) ≡ true → fault i n ts ws ≡ false
  gone i e = free_before B i (earlier_through i 6 k (numbers (ladder n ts ws)) e later)

  few : n ≤ most_vertices
  unfolding earlier
  few = (in_range n (gone 1 refl)).not_too_many

  small : n ≤ unused_mark
  small = let a = few in omega arith

  wood_long : length ws ≡ wood_length n
  unfolding earlier
  wood_long = ((tied_2 n ts ws).0 (gone 2 refl)).1

  pairs : Paired n ts
  unfolding earlier
  pairs =
      let a = (in_range n (gone 1 refl)).enough in
      let l = ((tied_2 n ts ws).0 (gone 2 refl)).0 in
      paired n (2 * n - 4) ts (omega arith) (gone 3 refl) (gone 4 refl) (gone 5 refl) (free_before B 6 later)

pub numbers_stand : (n : ℕ) (ts ws : List ℕ) → Numbers n ts ws
unfolding earlier
numbers_stand n ts ws = record {
  one = λ B. (in_range n, range_in n);
  two = λ B. tied_2 n ts ws;
  three = λ B. tied_3 n ts;
  four = λ B. tied_4 ts;
  five = λ B. tied_5 ts;
  six = λ B. tied_6 ts;
  seven = λ B. tied_7 ts ((tied_5 ts).0 (free_before B 5 refl));
  eight = λ B. tied_8 n ts (pairs n ts ws B refl) (small n ts ws B refl);
  nine = λ B. tied_9 n ws;
  ten = λ B. tied_10 n ts ws (pairs n ts ws B refl) (small n ts ws B refl);
  eleven = λ B. tied_11 n ws;
  twelve = λ B.
      let wood = (tied_9 n ws).0 (free_before B 9 refl) in
      let edges = (tied_10 n ts ws (pairs n ts ws B refl) (small n ts ws B refl)).0 (free_before B 10 refl) in
      tied_12 n ts ws (pairs n ts ws B refl) (few n ts ws B refl) (wood_long n ts ws B refl) wood.0 edges.0 edges.1;
  thirteen = λ B. tied_13 n ws ((tied_9 n ws).0 (free_before B 9 refl)).1;
}
