-- A triangle value against the flat table: corner k of triangle t is where the side at position 3t + k starts, and what is tested at the
-- three corners of each triangle is tested at each position.
use Prim.Native.Nat.{ℕ, zero, suc, ◌+◌, ◌*◌, ◌/◌, ◌%◌, ◌<◌}
use mathlib.Core.Path.{◌≡◌, refl, sym, ap, ap₂, ◌∙◌}
use mathlib.Core.List.{List}
use mathlib.Core.Bool.{Bool, true}
use native.Mathlib.Omega.{arith}
use lib.ListN.{get_or}
use lib.Dec.{leb, eqb}
use Rattle.mesh.specs.Search.{some}
use Rattle.mesh.specs.Limits.{at, triangles_length}
use Rattle.mesh.specs.Sides.{next, from, to}
use Rattle.mesh.specs.Verdict.{corner_fault, equal_fault}
use Rattle.mesh.proofs.Tests.{same_test}
use Rattle.mesh.proofs.Search.{some_at, some_of, some_cong}
use Rattle.mesh.proofs.Positions.{next_next}
use Rattle.tables.specs.Corners.{corners_of}

corner_at_holds : (ts : List ℕ) (t k : ℕ) → k < 3 → get_or (corners_of ts t) k 0 ≡ at ts (3 * t + k)
corner_at_holds ts t zero l = let e : 3 * t ≡ 3 * t + 0 = omega arith in ap (at ts) e
corner_at_holds ts t (suc zero) l = refl
corner_at_holds ts t (suc (suc zero)) l = refl
corner_at_holds ts t (suc (suc (suc k))) l = absurd (omega arith)

module _ (ts tri : List ℕ) (t : ℕ) (e : tri ≡ corners_of ts t) where
  -- corner i of the triangle stands at position q
  stands_at : (i q : ℕ) → i < 3 → 3 * t + i ≡ q → get_or tri i 0 ≡ at ts q
  stands_at i q l s = ap (λ (c : List ℕ). get_or c i 0) e ∙ corner_at_holds ts t i l ∙ ap (at ts) s

  -- corner k counted round, where the side at p starts; the corner after it and the third
  module _ (k p x : ℕ) (s : 3 * t + k % 3 ≡ p) where
    pub corner_is : x ≡ get_or tri (k % 3) 0 → x ≡ from ts p
    corner_is f = f ∙ stands_at (k % 3) p (omega arith) s

    pub after_is : x ≡ get_or tri ((k % 3 + 1) % 3) 0 → x ≡ to ts p
    unfolding next
    after_is f = f ∙ stands_at ((k % 3 + 1) % 3) (next p) (omega arith) (omega arith)

    pub third_is : x ≡ get_or tri ((k % 3 + 2) % 3) 0 → x ≡ at ts (next (next p))
    third_is f = f ∙ stands_at ((k % 3 + 2) % 3) (next (next p)) (omega arith) (omega (arith, next_next p))

-- the three corners of triangle t, and all triangles: a test q of positions
module _ (q : ℕ → Bool) (p : ℕ → Bool) (same : (t : ℕ) → p t ≡ some (λ k. q (3 * t + k)) 3) (m : ℕ) where
  at_position : some q (3 * m) ≡ true → some p m ≡ true
  at_position e =
      let w = some_at q (3 * m) e in
      let j : ℕ = w.0 in
      let l : j < 3 * m = w.1 in
      let s : j ≡ 3 * (j / 3) + j % 3 = omega arith in
      some_of p m (j / 3) (omega arith) (same (j / 3) ∙ some_of (λ k. q (3 * (j / 3) + k)) 3 (j % 3) (omega arith) (ap q (sym s) ∙ w.2))

  at_triangle : some p m ≡ true → some q (3 * m) ≡ true
  at_triangle e =
      let w = some_at p m e in
      let v = some_at (λ k. q (3 * w.0 + k)) 3 (sym (same w.0) ∙ w.2) in
      some_of q (3 * m) (3 * w.0 + v.0) (omega (arith, w.1, v.1)) v.2

  pub by_triangles : some p m ≡ some q (3 * m)
  by_triangles = same_test _ _ at_triangle at_position

-- 3 and 4 at the corners of triangle t
module _ (ts : List ℕ) (t : ℕ) where
  pub corner_test : (n : ℕ) → some (λ k. leb n (get_or (corners_of ts t) k 0)) 3 ≡ some (λ k. corner_fault n ts (3 * t + k)) 3
  corner_test n = some_cong _ _ 3 (λ k l. ap (leb n) (stands_at ts (corners_of ts t) t refl k (3 * t + k) l refl))

  pub equal_test : some (λ k. eqb (get_or (corners_of ts t) k 0) (get_or (corners_of ts t) ((k + 1) % 3) 0)) 3 ≡ some (λ k. equal_fault ts (3 * t + k)) 3
  unfolding next
  equal_test =
      some_cong _ _ 3
      (λ k l. ap₂ eqb (stands_at ts (corners_of ts t) t refl k (3 * t + k) l refl)
      (stands_at ts (corners_of ts t) t refl ((k + 1) % 3) (next (3 * t + k)) (omega arith) (omega arith)))

-- triangles are whole
pub three_each : (n m : ℕ) → m ≡ triangles_length n → 3 * (m / 3) ≡ m
three_each n m e = omega arith
