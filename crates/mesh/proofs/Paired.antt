-- What numbers 3 to 6 leave of a table: sides come in pairs. `twin` is the position of the reverse side, `turn` the next side round
-- the vertex that a side leaves; both stay in the table, `turn` keeps the vertex and can be undone. The neighbour that a turned
-- side goes to is the third corner, so going round by positions and going round by neighbours are the same.
use Prim.Native.Nat.{ℕ, zero, suc, ◌*◌, ◌≤◌, ◌<◌}
use mathlib.Core.Path.{◌≡◌, refl, sym, ap, ◌∙◌}
use mathlib.Core.List.{List}
use mathlib.Core.Bool.{true, false}
use native.Mathlib.Omega.{arith}
use lib.ListN.{length}
use lib.Dec.{ltb}
use borrow.Author.Tests.{ltb-true, ltb-false, lt-ltb, leb-false, eqb-false}
use Rattle.mesh.specs.Search.{some, iterate}
use Rattle.mesh.specs.Limits.{unused_mark}
use Rattle.mesh.specs.Sides.{next, from, to, side_at, third, is_neighbour}
use Rattle.mesh.specs.Verdict.{corner_fault, equal_fault, repeat_fault, reverse_fault}
use Rattle.mesh.specs.Paired.{twin, turn, turn_back, Paired}
use Rattle.mesh.proofs.Tests.{by_bool}
use Rattle.mesh.proofs.Search.{some_none}
use Rattle.mesh.proofs.Positions.{next_in, next_3, side_at_law, side_at_le, side_at_only, third_at, third_none}

-- the tests give it
pub paired : (n m : ℕ) (ts : List ℕ) → length ts ≡ 3 * m
    → some (corner_fault n ts) (length ts) ≡ false → some (equal_fault ts) (length ts) ≡ false
    → some (repeat_fault ts) (length ts) ≡ false → some (reverse_fault ts) (length ts) ≡ false → Paired n ts
unfolding twin
paired n m ts e f3 f4 f5 f6 = record {
  many = m;
  whole = e;
  corner = λ p l. leb-false n (from ts p) (some_none (corner_fault n ts) (length ts) f3 p l);
  differ = λ p l. eqb-false (from ts p) (to ts p) (some_none (equal_fault ts) (length ts) f4 p l);
  once = λ p l.
      let a = ltb-false (side_at ts (from ts p) (to ts p)) p (some_none (repeat_fault ts) (length ts) f5 p l) in
      let b = side_at_le ts (from ts p) (to ts p) p l refl refl in
      omega arith;
  twin_in = λ p l. leb-false (length ts) (side_at ts (to ts p) (from ts p)) (some_none (reverse_fault ts) (length ts) f6 p l);
}

module _ (n : ℕ) (ts : List ℕ) (P : Paired n ts) where
  pub next_within : (p : ℕ) → p < length ts → next p < length ts
  next_within p l = let e = P.whole in let g = next_in p P.many (omega arith) in omega arith

  pub to_in : (p : ℕ) → p < length ts → to ts p < n
  to_in p l = P.corner (next p) (next_within p l)

  -- a side occurs once
  pub simple : (p q : ℕ) → p < length ts → q < length ts → from ts p ≡ from ts q → to ts p ≡ to ts q → p ≡ q
  simple p q l g a b = sym (P.once p l) ∙ rw (a, b) (P.once q g)

  pub side_is : (a b p : ℕ) → p < length ts → from ts p ≡ a → to ts p ≡ b → side_at ts a b ≡ p
  side_is a b p l e f = side_at_only ts a b p l e f simple

  pub third_is : (a b p : ℕ) → p < length ts → from ts p ≡ a → to ts p ≡ b → third ts a b ≡ from ts (next (next p))
  third_is a b p l e f = third_at ts a b p (side_is a b p l e f) l

  pub twin_from : (p : ℕ) → p < length ts → from ts (twin ts p) ≡ to ts p
  unfolding twin
  twin_from p l = (side_at_law ts (to ts p) (from ts p) (P.twin_in p l)).0

  pub twin_to : (p : ℕ) → p < length ts → to ts (twin ts p) ≡ from ts p
  unfolding twin
  twin_to p l = (side_at_law ts (to ts p) (from ts p) (P.twin_in p l)).1

  pub twin_2 : (p : ℕ) → p < length ts → twin ts (twin ts p) ≡ p
  twin_2 p l =
      simple (twin ts (twin ts p)) p (P.twin_in (twin ts p) (P.twin_in p l)) l
      (twin_from (twin ts p) (P.twin_in p l) ∙ twin_to p l) (twin_to (twin ts p) (P.twin_in p l) ∙ twin_from p l)

  before_within : (p : ℕ) → p < length ts → next (next p) < length ts
  before_within p l = next_within (next p) (next_within p l)

  pub turn_in : (p : ℕ) → p < length ts → turn ts p < length ts
  unfolding turn
  turn_in p l = P.twin_in (next (next p)) (before_within p l)

  pub turn_from : (p : ℕ) → p < length ts → from ts (turn ts p) ≡ from ts p
  unfolding turn
  turn_from p l = twin_from (next (next p)) (before_within p l) ∙ ap (from ts) (next_3 p)

  -- the turned side goes to the third corner
  pub turn_to : (p : ℕ) → p < length ts → to ts (turn ts p) ≡ from ts (next (next p))
  unfolding turn
  turn_to p l = twin_to (next (next p)) (before_within p l)

  pub turn_back_in : (p : ℕ) → p < length ts → turn_back ts p < length ts
  unfolding turn_back
  turn_back_in p l = next_within (twin ts p) (P.twin_in p l)

  pub turn_back_turn : (p : ℕ) → p < length ts → turn_back ts (turn ts p) ≡ p
  unfolding turn turn_back
  turn_back_turn p l = ap next (twin_2 (next (next p)) (before_within p l)) ∙ next_3 p

  pub turn_inj : (p q : ℕ) → p < length ts → q < length ts → turn ts p ≡ turn ts q → p ≡ q
  turn_inj p q l g e = sym (turn_back_turn p l) ∙ ap (turn_back ts) e ∙ turn_back_turn q g

  pub turns_in : (k p : ℕ) → p < length ts → iterate (turn ts) k p < length ts
  unfolding iterate
  turns_in zero p l = l
  turns_in (suc k) p l = turn_in (iterate (turn ts) k p) (turns_in k p l)

  pub turns_from : (k p : ℕ) → p < length ts → from ts (iterate (turn ts) k p) ≡ from ts p
  unfolding iterate
  turns_from zero p l = refl
  turns_from (suc k) p l = turn_from (iterate (turn ts) k p) (turns_in k p l) ∙ turns_from k p l

  -- round by positions is round by neighbours
  pub turns_to : (k p : ℕ) → p < length ts → to ts (iterate (turn ts) k p) ≡ iterate (third ts (from ts p)) k (to ts p)
  unfolding iterate
  turns_to zero p l = refl
  turns_to (suc k) p l =
      let q : ℕ = iterate (turn ts) k p in
      let lq : q < length ts = turns_in k p l in
      turn_to q lq ∙ sym (third_is (from ts p) (to ts q) q lq (turns_from k p l) refl) ∙ ap (third ts (from ts p)) (turns_to k p l)

  -- b is a neighbour of v exactly when the side is there
  pub neighbour_side : n ≤ unused_mark → (v b : ℕ) → is_neighbour n (third ts) v b ≡ true → side_at ts v b < length ts
  neighbour_side h v b t =
      by_bool (ltb (side_at ts v b) (length ts)) (λ u. ltb-true (side_at ts v b) (length ts) u)
      (λ u.
      let z = third_none ts v b (ltb-false (side_at ts v b) (length ts) u) in
      let y = ltb-true (third ts v b) n t in
      absurd (omega arith))

  pub side_neighbour : (v b : ℕ) → side_at ts v b < length ts → is_neighbour n (third ts) v b ≡ true
  side_neighbour v b l =
      let s = side_at_law ts v b l in
      let e : third ts v b ≡ from ts (next (next (side_at ts v b))) = third_at ts v b (side_at ts v b) refl l in
      lt-ltb (third ts v b) n (rw e (P.corner (next (next (side_at ts v b))) (before_within (side_at ts v b) l)))
