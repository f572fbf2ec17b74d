-- Number 13, and the path rule: n steps along a colour end at its anchor exactly when the path does, since a path that ends passes
-- no vertex twice and so has fewer than n steps. And the reach: along colour 0 each vertex comes to 0, and sides run both ways.
use Prim.Native.Nat.{ℕ, zero, suc, ◌*◌, ◌≤◌, ◌<◌}
use mathlib.Core.Path.{◌≡◌, refl, sym, ap, ◌∙◌, subst}
use mathlib.Core.List.{List}
use mathlib.Core.Bool.{false, not}
use native.Mathlib.Omega.{arith}
use lib.Dec.{leb, ltb, eqb}
use borrow.Author.Tests.{ltb-true, ltb-false, leb-true, leb-false, eqb-true, eq-eqb, not-false}
use Rattle.mesh.specs.Search.{some, iterate}
use Rattle.mesh.specs.Wood.{source, target, edge_of, along}
use Rattle.mesh.specs.Verdict.{path_fault}
use Rattle.mesh.specs.Mesh.{Side, Path, arrived, step, Reached, start, along_side}
use Rattle.mesh.proofs.Tests.{by_bool, and_fails, and_false_left, and_false_right, by3}
use Rattle.mesh.proofs.Search.{some_none, none_some}
use Rattle.mesh.proofs.Iterate.{iterate_zero, iterate_suc, iterate_fixed}
use Rattle.mesh.proofs.Paths.{along_anchor, along_inner, ends_in_time}

steps_path : (ws : List ℕ) (c k v : ℕ) → c < 3 → iterate (along ws c) k v ≡ c → Path ws c v c
steps_path ws c zero v l e = subst (λ x. Path ws c x c) (sym e ∙ iterate_zero (along ws c) v) (arrived l)
steps_path ws c (suc k) v l e =
    by_bool (ltb v 3)
    (λ t.
    let z : v ≡ c = sym (iterate_fixed (along ws c) (suc k) v (along_anchor ws c v (ltb-true v 3 t))) ∙ e in
    subst (λ x. Path ws c x c) (sym z) (arrived l))
    (λ t.
    let h : 3 ≤ v = ltb-false v 3 t in
    step h (steps_path ws c k (target ws (edge_of v c)) l (ap (iterate (along ws c) k) (sym (along_inner ws c v h)) ∙ sym (iterate_suc (along ws c) k v) ∙ e)))

path_steps : (ws : List ℕ) (c : ℕ) {v a : ℕ} → Path ws c v a → (a < 3) × (k : ℕ) × (iterate (along ws c) k v ≡ a)
path_steps ws c {v} (arrived l) = (l, 0, iterate_zero (along ws c) v)
path_steps ws c {v} (step h p) =
    let r = path_steps ws c p in
    (r.0, suc r.1, iterate_suc (along ws c) r.1 v ∙ ap (iterate (along ws c) r.1) (along_inner ws c v h) ∙ r.2)

module _ (n : ℕ) (ws : List ℕ) where
  pub paths_ruled : some (path_fault n ws) n ≡ false → (v c : ℕ) → 3 ≤ v → v < n → c < 3 → Path ws c v c
  unfolding path_fault
  paths_ruled no13 v c h l lc =
      and_fails (leb 3 v) (some (λ c. not (eqb (iterate (along ws c) n v) c)) 3) (some_none (path_fault n ws) n no13 v l)
      (λ t. absurd (omega (arith, leb-false 3 v t)))
      (λ t. steps_path ws c n v lc
      (eqb-true (iterate (along ws c) n v) c
      (not-false (eqb (iterate (along ws c) n v) c) (some_none (λ c. not (eqb (iterate (along ws c) n v) c)) 3 t c lc))))

  module _ (targets : (e : ℕ) → 9 ≤ e → e < 3 * n → target ws e < n) where
    path_in_time : (v c : ℕ) → v < n → c < 3 → Path ws c v c → iterate (along ws c) n v ≡ c
    path_in_time v c l lc p = let r = path_steps ws c p in ends_in_time n ws targets c lc r.1 v l r.2

    pub paths_right : ((v c : ℕ) → 3 ≤ v → v < n → c < 3 → Path ws c v c) → some (path_fault n ws) n ≡ false
    unfolding path_fault
    paths_right rule =
        none_some (path_fault n ws) n
        (λ v l. by_bool (leb 3 v)
        (λ t. and_false_right (leb 3 v) (some (λ c. not (eqb (iterate (along ws c) n v) c)) 3)
        (none_some (λ c. not (eqb (iterate (along ws c) n v) c)) 3
        (λ c lc. rw (eq-eqb (iterate (along ws c) n v) c (path_in_time v c l lc (rule v c (leb-true 3 v t) l lc))))))
        (λ t. and_false_left (leb 3 v) (some (λ c. not (eqb (iterate (along ws c) n v) c)) 3) t))

-- the reach
module _ (n : ℕ) (ts ws : List ℕ)
    (targets : (e : ℕ) → 9 ≤ e → e < 3 * n → target ws e < n)
    (joins : (e : ℕ) → 9 ≤ e → e < 3 * n → Side ts (source e) (target ws e))
    (reverse : (a b : ℕ) → Side ts a b → Side ts b a) where
  reached_along : {v a : ℕ} → Path ws 0 v a → v < n → a ≡ 0 → Reached ts v
  reached_along {v} (arrived l) h e = subst (Reached ts) (sym e) start
  reached_along {v} (step l p) h e =
      let low : 9 ≤ edge_of v 0 = omega arith in
      let high : edge_of v 0 < 3 * n = omega arith in
      let s : source (edge_of v 0) ≡ v = omega arith in
      along_side (reached_along p (targets (edge_of v 0) low high) e)
      (reverse v (target ws (edge_of v 0)) (subst (λ x. Side ts x (target ws (edge_of v 0))) s (joins (edge_of v 0) low high)))

  pub reached : Side ts 0 2 → Side ts 1 0 → ((v : ℕ) → 3 ≤ v → v < n → Path ws 0 v 0) → (v : ℕ) → v < n → Reached ts v
  reached s2 s1 rule v l =
      by_bool (ltb v 3)
      (λ t. by3 v (ltb-true v 3 t) (λ z. subst (Reached ts) (sym z) start) (λ z. subst (Reached ts) (sym z) (along_side start (reverse 1 0 s1)))
      (λ z. subst (Reached ts) (sym z) (along_side start s2)))
      (λ t. reached_along (rule v (ltb-false v 3 t) l) l refl)
