-- A walk by f from p, step by step: whether it is back at p in fewer than d steps, as a loop finds it out.
use Prim.Native.Nat.{ℕ, suc, ◌+◌, ◌-◌, ◌≤◌, ◌<◌}
use mathlib.Core.Path.{◌≡◌, sym, ap, ◌∙◌}
use mathlib.Core.Bool.{true, false}
use mathlib.Core.Logic.{◌≢◌}
use native.Mathlib.Omega.{arith}
use lib.Dec.{eqb}
use borrow.Author.Tests.{eqb-true, eqb-false, eq-eqb, ne_eqb}
use Rattle.mesh.specs.Search.{iterate}
use Rattle.mesh.proofs.Tests.{by_bool}
use Rattle.mesh.proofs.Search.{some_of, none_some}
use Rattle.mesh.proofs.Iterate.{iterate_step}
use Rattle.triangles.specs.Turns.{back_early}

-- not back in fewer than k steps
abbrev pub NotBack : (ℕ → ℕ) → ℕ → ℕ → Type 0
NotBack f p k = (i : ℕ) → i < k - 1 → eqb (iterate f (1 + i) p) p ≡ false

-- after k - 1 steps the walk is at q; r is one step on
module _ (f : ℕ → ℕ) (p k q r : ℕ) (one : 1 ≤ k) (here : q ≡ iterate f (k - 1) p) (on : r ≡ f q) where
  stepped : r ≡ iterate f (1 + (k - 1)) p
  stepped =
      let s : suc (k - 1) ≡ 1 + (k - 1) = omega arith in
      on ∙ ap f here ∙ sym (iterate_step f (k - 1) p) ∙ ap (λ (j : ℕ). iterate f j p) s

  pub walk_on : r ≡ iterate f (k + 1 - 1) p
  walk_on = let s : 1 + (k - 1) ≡ k + 1 - 1 = omega arith in stepped ∙ ap (λ (j : ℕ). iterate f j p) s

  pub walk_back : (d : ℕ) → k < d → r ≡ p → back_early f p d ≡ true
  unfolding back_early
  walk_back d l e =
      some_of (λ i. eqb (iterate f (1 + i) p) p) (d - 1) (k - 1) (omega arith) (eq-eqb (iterate f (1 + (k - 1)) p) p (sym stepped ∙ e))

  pub walk_clear : r ≢ p → NotBack f p k → NotBack f p (k + 1)
  walk_clear d h i l =
      by_bool (eqb i (k - 1))
      (λ t.
      let e : i ≡ k - 1 = eqb-true i (k - 1) t in
      ne_eqb (iterate f (1 + i) p) p (λ z. d (stepped ∙ ap (λ (j : ℕ). iterate f (1 + j) p) (sym e) ∙ z)))
      (λ t. let g : i ≢ k - 1 = eqb-false i (k - 1) t in h i (omega arith))

pub walk_end : (f : ℕ → ℕ) (p k d : ℕ) → d ≤ k → NotBack f p k → back_early f p d ≡ false
unfolding back_early
walk_end f p k d l h = none_some (λ i. eqb (iterate f (1 + i) p) p) (d - 1) (λ i g. h i (omega arith))
