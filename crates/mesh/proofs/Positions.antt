-- Positions of the triangle table, and the search for a side.
use Prim.Native.Nat.{ℕ, ◌+◌, ◌*◌, ◌/◌, ◌%◌, ◌≤◌, ◌<◌}
use mathlib.Core.Path.{◌≡◌, sym, ◌∙◌}
use mathlib.Core.List.{List}
use mathlib.Core.Bool.{true}
use mathlib.Core.Logic.{◌≢◌, ◌⊎◌, inl, inr}
use native.Mathlib.Omega.{arith}
use lib.ListN.{length}
use lib.Dec.{eqb}
use borrow.Author.Tests.{eqb-true, eqb-false, lt-ltb, le-ltb, eq-eqb}
use Rattle.mesh.specs.Limits.{at, unused_mark}
use Rattle.mesh.specs.Sides.{next, from, to, is_side, side_at, third}
use Rattle.mesh.proofs.Tests.{by_bool, and_true, and_of}
use Rattle.mesh.proofs.Search.{first_law, first_bound, first_le, first_only}

pub next_in : (p m : ℕ) → p < 3 * m → next p < 3 * m
unfolding next
next_in p m l = omega arith

pub next_div : (p : ℕ) → next p / 3 ≡ p / 3
unfolding next
next_div p = omega arith

pub next_mod : (p : ℕ) → next p % 3 ≡ (p + 1) % 3
unfolding next
next_mod p = omega arith

-- the corner before
pub next_next : (p : ℕ) → next (next p) ≡ 3 * (p / 3) + (p + 2) % 3
unfolding next
next_next p = omega arith

mod_step : (a b : ℕ) → a % 3 ≡ b % 3 → (a + 1) % 3 ≡ (b + 1) % 3
mod_step a b e = omega arith

pub same_digits : (a b : ℕ) → a / 3 ≡ b / 3 → a % 3 ≡ b % 3 → a ≡ b
same_digits a b e f = omega arith

three_steps : (p : ℕ) → (p + 1 + 1 + 1) % 3 ≡ p % 3
three_steps p = omega arith

pub next_3 : (p : ℕ) → next (next (next p)) ≡ p
next_3 p =
    same_digits (next (next (next p))) p (next_div (next (next p)) ∙ next_div (next p) ∙ next_div p)
    (next_mod (next (next p)) ∙ mod_step (next (next p)) (p + 1 + 1) (next_mod (next p) ∙ mod_step (next p) (p + 1) (next_mod p)) ∙ three_steps p)

-- the positions of one triangle
pub same_triangle : (p q : ℕ) → p / 3 ≡ q / 3 → (q ≡ p) ⊎ ((q ≡ next p) ⊎ (q ≡ next (next p)))
same_triangle p q e =
    by_bool (eqb (q % 3) (p % 3)) (λ t. inl (let u = eqb-true (q % 3) (p % 3) t in omega arith))
    (λ t.
    let u : q % 3 ≢ p % 3 = eqb-false (q % 3) (p % 3) t in
    by_bool (eqb (q % 3) ((p + 1) % 3))
    (λ s. inr (inl (let v = eqb-true (q % 3) ((p + 1) % 3) s in same_digits q (next p) (sym e ∙ sym (next_div p)) (v ∙ sym (next_mod p)))))
    (λ s. inr (inr (
    let v : q % 3 ≢ (p + 1) % 3 = eqb-false (q % 3) ((p + 1) % 3) s in
    same_digits q (next (next p)) (sym e ∙ sym (next_div p) ∙ sym (next_div (next p)))
    (the_third p q u v ∙ sym (next_mod (next p) ∙ mod_step (next p) (p + 1) (next_mod p)))))))
  where
    the_third : (p q : ℕ) → q % 3 ≢ p % 3 → q % 3 ≢ (p + 1) % 3 → q % 3 ≡ (p + 1 + 1) % 3
    the_third p q a b = omega arith

-- what a side found is
pub is_side_true : (ts : List ℕ) (a b p : ℕ) → is_side ts a b p ≡ true → (from ts p ≡ a) × (to ts p ≡ b)
is_side_true ts a b p e =
    let t = and_true (eqb (from ts p) a) (eqb (to ts p) b) e in
    (eqb-true (from ts p) a t.0, eqb-true (to ts p) b t.1)

pub is_side_of : (ts : List ℕ) (a b p : ℕ) → from ts p ≡ a → to ts p ≡ b → is_side ts a b p ≡ true
is_side_of ts a b p e f = and_of (eqb (from ts p) a) (eqb (to ts p) b) (eq-eqb (from ts p) a e) (eq-eqb (to ts p) b f)

pub side_at_bound : (ts : List ℕ) (a b : ℕ) → side_at ts a b ≤ length ts
unfolding side_at
side_at_bound ts a b = first_bound (is_side ts a b) (length ts)

pub side_at_law : (ts : List ℕ) (a b : ℕ) → side_at ts a b < length ts → (from ts (side_at ts a b) ≡ a) × (to ts (side_at ts a b) ≡ b)
unfolding side_at
side_at_law ts a b l = is_side_true ts a b (side_at ts a b) ((first_law (is_side ts a b) (length ts)).hit l)

-- a side that is there is found, at or before its position
pub side_at_le : (ts : List ℕ) (a b p : ℕ) → p < length ts → from ts p ≡ a → to ts p ≡ b → side_at ts a b ≤ p
unfolding side_at
side_at_le ts a b p l e f = first_le (is_side ts a b) (length ts) p l (is_side_of ts a b p e f)

pub side_at_only : (ts : List ℕ) (a b p : ℕ) → p < length ts → from ts p ≡ a → to ts p ≡ b
    → ((q r : ℕ) → q < length ts → r < length ts → from ts q ≡ from ts r → to ts q ≡ to ts r → q ≡ r) → side_at ts a b ≡ p
unfolding side_at
side_at_only ts a b p l e f once =
    first_only (is_side ts a b) (length ts) p l (is_side_of ts a b p e f)
    (λ q g t. let u = is_side_true ts a b q t in once q p g l (u.0 ∙ sym e) (u.1 ∙ sym f))

-- the third corner, where the side is and where it is not
pub third_at : (ts : List ℕ) (a b p : ℕ) → side_at ts a b ≡ p → p < length ts → third ts a b ≡ at ts (next (next p))
unfolding third
third_at ts a b p e l = rw (e, lt-ltb p (length ts) l)

pub third_none : (ts : List ℕ) (a b : ℕ) → length ts ≤ side_at ts a b → third ts a b ≡ unused_mark
unfolding third
third_none ts a b l = rw (le-ltb (side_at ts a b) (length ts) l)
