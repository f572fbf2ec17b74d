-- A table that holds the same triangles, turned and in another order: π takes its positions, one by one and each triangle to a
-- triangle, to those of the first. Then it has the same third corners and passes numbers 3 to 6: each is carried along π.
use Prim.Native.Nat.{ℕ, ◌≤◌, ◌<◌}
use mathlib.Core.Path.{◌≡◌, refl, sym, ap, ◌∙◌}
use mathlib.Core.List.{List}
use mathlib.Core.Bool.{false}
use native.Mathlib.Omega.{arith}
use lib.ListN.{length}
use lib.Dec.{ltb}
use borrow.Author.Tests.{ltb-true, ltb-false, le-ltb, lt-leb, ne_eqb}
use Rattle.mesh.specs.Search.{some}
use Rattle.mesh.specs.Sides.{next, from, to, side_at, third}
use Rattle.mesh.specs.Verdict.{corner_fault, equal_fault, repeat_fault, reverse_fault}
use Rattle.mesh.proofs.Tests.{by_bool}
use Rattle.mesh.proofs.Search.{none_some}
use Rattle.mesh.proofs.Count.{onto}
use Rattle.mesh.proofs.Positions.{side_at_law, side_at_le, side_at_only, third_at, third_none}
use Rattle.mesh.specs.Paired.{Paired, twin}
use Rattle.mesh.proofs.Paired.{simple, twin_from, twin_to, next_within}

pub record Permuted (ts ts' : List ℕ) (π : ℕ → ℕ) : Type 0 where
  pub same_length : length ts' ≡ length ts
  pub within : (q : ℕ) → q < length ts → π q < length ts
  pub corner_is : (q : ℕ) → q < length ts → from ts' q ≡ from ts (π q)
  pub turned : (q : ℕ) → q < length ts → π (next q) ≡ next (π q)
  pub injective : (p q : ℕ) → p < length ts → q < length ts → π p ≡ π q → p ≡ q

module _ (n : ℕ) (ts ts' : List ℕ) (π : ℕ → ℕ) (P : Paired n ts) (S : Permuted ts ts' π) where
  inside : (q : ℕ) → q < length ts' → q < length ts
  inside q l = let e = S.same_length in omega arith

  inside' : (q : ℕ) → q < length ts → q < length ts'
  inside' q l = let e = S.same_length in omega arith

  from_is : (q : ℕ) → q < length ts' → from ts' q ≡ from ts (π q)
  from_is q l = S.corner_is q (inside q l)

  to_is : (q : ℕ) → q < length ts' → to ts' q ≡ to ts (π q)
  to_is q l = S.corner_is (next q) (next_within n ts P q (inside q l)) ∙ ap (from ts) (S.turned q (inside q l))

  simple' : (p q : ℕ) → p < length ts' → q < length ts' → from ts' p ≡ from ts' q → to ts' p ≡ to ts' q → p ≡ q
  simple' p q lp lq e f =
      S.injective p q (inside p lp) (inside q lq)
      (simple n ts P (π p) (π q) (S.within p (inside p lp)) (S.within q (inside q lq))
      (sym (from_is p lp) ∙ e ∙ from_is q lq) (sym (to_is p lp) ∙ f ∙ to_is q lq))

  -- where a position of the first table stands in the second
  back : (p : ℕ) → p < length ts → (q : ℕ) × (q < length ts') × (π q ≡ p)
  back p l = let o = onto (length ts) π S.within S.injective p l in (o.0, inside' o.0 o.1, o.2)

  pub permuted_3 : some (corner_fault n ts') (length ts') ≡ false
  permuted_3 = none_some (corner_fault n ts') (length ts')
      (λ q l. lt-leb n (from ts' q) (rw (from_is q l) (P.corner (π q) (S.within q (inside q l)))))

  pub permuted_4 : some (equal_fault ts') (length ts') ≡ false
  permuted_4 = none_some (equal_fault ts') (length ts')
      (λ q l. ne_eqb (from ts' q) (to ts' q)
      (λ e. P.differ (π q) (S.within q (inside q l)) (sym (from_is q l) ∙ e ∙ to_is q l)))

  pub permuted_5 : some (repeat_fault ts') (length ts') ≡ false
  permuted_5 = none_some (repeat_fault ts') (length ts')
      (λ q l. le-ltb (side_at ts' (from ts' q) (to ts' q)) q (rw (side_at_only ts' (from ts' q) (to ts' q) q l refl refl simple') (omega arith)))

  pub permuted_6 : some (reverse_fault ts') (length ts') ≡ false
  permuted_6 = none_some (reverse_fault ts') (length ts')
      (λ q l.
      let lp = S.within q (inside q l) in
      let o = back (twin ts (π q)) (P.twin_in (π q) lp) in
      let h =
      side_at_le ts' (to ts' q) (from ts' q) o.0 o.1
      (from_is o.0 o.1 ∙ ap (from ts) o.2 ∙ twin_from n ts P (π q) lp ∙ sym (to_is q l))
      (to_is o.0 o.1 ∙ ap (to ts) o.2 ∙ twin_to n ts P (π q) lp ∙ sym (from_is q l)) in
      let g = o.1 in
      lt-leb (length ts') (side_at ts' (to ts' q) (from ts' q)) (omega arith))

  pub same_third : (a b : ℕ) → third ts' a b ≡ third ts a b
  same_third a b =
      by_bool (ltb (side_at ts a b) (length ts))
      (λ t.
      let p : ℕ = side_at ts a b in
      let l : p < length ts = ltb-true p (length ts) t in
      let s = side_at_law ts a b l in
      let o = back p l in
      let q : ℕ = o.0 in
      let lq = inside q o.1 in
      third_at ts' a b q
      (side_at_only ts' a b q o.1 (from_is q o.1 ∙ ap (from ts) o.2 ∙ s.0) (to_is q o.1 ∙ ap (to ts) o.2 ∙ s.1) simple')
      o.1 ∙
      S.corner_is (next (next q)) (next_within n ts P (next q) (next_within n ts P q lq)) ∙
      ap (from ts) (S.turned (next q) (next_within n ts P q lq) ∙ ap next (S.turned q lq ∙ ap next o.2)) ∙
      sym (third_at ts a b p refl l))
      (λ t.
      let l : length ts ≤ side_at ts a b = ltb-false (side_at ts a b) (length ts) t in
      by_bool (ltb (side_at ts' a b) (length ts'))
      (λ u.
      let q : ℕ = side_at ts' a b in
      let h : q < length ts' = ltb-true q (length ts') u in
      let s = side_at_law ts' a b h in
      let lp = S.within q (inside q h) in
      let c = side_at_le ts a b (π q) lp (sym (from_is q h) ∙ s.0) (sym (to_is q h) ∙ s.1) in
      absurd (omega arith))
      (λ u. third_none ts' a b (ltb-false (side_at ts' a b) (length ts') u) ∙ sym (third_none ts a b l)))
