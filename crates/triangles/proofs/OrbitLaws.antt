-- One turn that meets all. f is an injective map of the numbers below m that keeps a test w, and d of them pass it. From one that
-- passes, f is back in fewer than d steps exactly when it does not meet all d: steps that are not back are all different, so d of
-- them meet everything (pigeonhole); steps that are back after i meet at most i. So it does not matter where one starts.
use Prim.Native.Nat.{ℕ, zero, suc, ◌+◌, ◌-◌, ◌≤◌, ◌<◌}
use mathlib.Core.Path.{◌≡◌, sym, ap, ◌∙◌}
use mathlib.Core.Bool.{Bool, true, false}
use mathlib.Core.Logic.{◌≢◌}
use native.Mathlib.Omega.{arith}
use lib.Dec.{ltb, eqb}
use borrow.Author.Tests.{ltb-true, ltb-false, eqb-true, eqb-false}
use Rattle.mesh.specs.Search.{first, count, iterate}
use Rattle.mesh.proofs.Tests.{by_bool}
use Rattle.mesh.proofs.Search.{first_law, some_at, some_none}
use Rattle.mesh.proofs.Count.{without, without_other, count_without, pigeon, cover}
use Rattle.mesh.proofs.Iterate.{iterate_add, iterate_keeps, least, come_back}
use Rattle.triangles.specs.Turns.{back_early}

module _ (f : ℕ → ℕ) (m : ℕ) (w : ℕ → Bool) (inside : (y : ℕ) → y < m → f y < m)
    (inj : (y z : ℕ) → y < m → z < m → f y ≡ f z → y ≡ z) (keeps : (y : ℕ) → y < m → w y ≡ true → w (f y) ≡ true) where
  stay : (k x : ℕ) → x < m → iterate f k x < m
  stay k x l = iterate_keeps (λ y. y < m) f inside k x l

  keep : (k x : ℕ) → x < m → w x ≡ true → w (iterate f k x) ≡ true
  keep k x l t = (iterate_keeps (λ y. (y < m) × (w y ≡ true)) f (λ y h. (inside y h.0, keeps y h.0 h.1)) k x (l, t)).1

  steps_inj : (k x y : ℕ) → x < m → y < m → iterate f k x ≡ iterate f k y → x ≡ y
  unfolding iterate
  steps_inj zero x y l g e = e
  steps_inj (suc k) x y l g e = steps_inj k x y l g (inj (iterate f k x) (iterate f k y) (stay k x l) (stay k y g) e)

  apart : (p d i j : ℕ) → p < m → back_early f p d ≡ false → i < j → j < d → iterate f i p ≢ iterate f j p
  unfolding back_early
  apart p d i j l b g h e =
      let r : ℕ = j - suc i in
      let s : i + (1 + r) ≡ j = omega arith in
      eqb-false (iterate f (1 + r) p) p (some_none (λ i. eqb (iterate f (1 + i) p) p) (d - 1) b r (omega arith))
      (sym (steps_inj i p (iterate f (1 + r) p) l (stay (1 + r) p l)
      (e ∙ ap (λ (k : ℕ). iterate f k p) (sym s) ∙ iterate_add f i (1 + r) p)))

  -- not back early: all are met
  pub meets_all : (p x : ℕ) → p < m → w p ≡ true → back_early f p (count w m) ≡ false → x < m → w x ≡ true
      → (k : ℕ) × (k < count w m) × (iterate f k p ≡ x)
  meets_all p x l t b g u =
      let d : ℕ = count w m in
      let q : ℕ → Bool = (λ k. eqb (iterate f k p) x) in
      let r : ℕ = first q d in
      by_bool (ltb r d)
      (λ v. let h : r < d = ltb-true r d v in (r, h, eqb-true (iterate f r p) x ((first_law q d).hit h)))
      (λ v.
      let h : d ≤ r = ltb-false r d v in
      absurd
      (let a =
      pigeon d m (λ i. iterate f i p) (without w x) (λ i _. stay i p l)
      (λ i li. without_other w x (iterate f i p) (eqb-false (iterate f i p) x ((first_law q d).low i (omega arith))) ∙ keep i p l t)
      (λ i j gi hj. apart p d i j l b gi hj) in
      let c = count_without w m x g u in
      omega arith))

  -- back early: not all are met
  pub misses_one : (p : ℕ) → back_early f p (count w m) ≡ true
      → ((x : ℕ) → x < m → w x ≡ true → (k : ℕ) × (iterate f k p ≡ x)) → ⊥
  unfolding back_early
  misses_one p b all =
      let d : ℕ = count w m in
      let s = some_at (λ i. eqb (iterate f (1 + i) p) p) (d - 1) b in
      let i : ℕ = s.0 in
      let li : i < d - 1 = s.1 in
      let back : iterate f (1 + i) p ≡ p = eqb-true (iterate f (1 + i) p) p s.2 in
      let c = cover (1 + i) m (λ k. iterate f k p) w (λ x l t. within i x back (all x l t)) in
      omega arith
    where
      within : (i x : ℕ) → iterate f (1 + i) p ≡ p → (k : ℕ) × (iterate f k p ≡ x) → (k : ℕ) × (k < 1 + i) × (iterate f k p ≡ x)
      within i x back (k, e) =
          let n = least f p x k e in
          let j : ℕ = n.0 in (
            j,
            by_bool (ltb j (1 + i)) (λ u. ltb-true j (1 + i) u)
                (λ u.
                let h : 1 + i ≤ j = ltb-false j (1 + i) u in
                let s : j - (1 + i) + (1 + i) ≡ j = omega arith in
                absurd (n.2 (j - (1 + i)) (omega arith)
                (ap (iterate f (j - (1 + i))) (sym back) ∙ sym (iterate_add f (j - (1 + i)) (1 + i) p) ∙ ap (λ (z : ℕ). iterate f z p) s ∙ n.1))),
            n.1,
          )

  -- wherever one starts
  pub any_start : (p q : ℕ) → p < m → q < m → w p ≡ true → w q ≡ true → back_early f p (count w m) ≡ false → back_early f q (count w m) ≡ false
  any_start p q l g t u b =
      by_bool (back_early f q (count w m))
      (λ v. absurd (misses_one q v
      (λ x lx tx.
      let a = meets_all p q l t b g u in
      let k = meets_all p x l t b lx tx in
      let c = come_back f m inside inj a.0 p l in (
        k.0 + c.0,
        iterate_add f k.0 c.0 q ∙ ap (λ (z : ℕ). iterate f k.0 (iterate f c.0 z)) (sym a.2) ∙
            ap (iterate f k.0) c.1 ∙ k.2,
      ))))
      (λ v. v)
