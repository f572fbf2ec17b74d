-- What the rebuild says, taken apart: 0 is that the decoded mesh is accepted and has the references back; otherwise it is 18.
use Prim.Native.Nat.{ℕ}
use mathlib.Core.Path.{◌≡◌, refl, sym, ap, ◌∙◌}
use mathlib.Core.List.{List}
use mathlib.Core.Bool.{Bool, cond, ◌&&◌}
use mathlib.Core.Logic.{◌⊎◌, inl, inr}
use native.Mathlib.Omega.{arith}
use lib.Dec.{eqb}
use borrow.Author.Tests.{eqb-true, eq-eqb}
use Rattle.mesh.specs.Verdict.{verdict}
use Rattle.mesh.specs.Array.{references_of}
use Rattle.mesh.specs.Rebuild.{rebuilt_wood, rebuilt_triangles, triangles_from, same_list, rebuild_says}
use Rattle.mesh.proofs.Tests.{by_bool}
use Rattle.mesh.proofs.SameList.{same_list_true, same_list_refl}

pub triangles_is : (n : ℕ) (refs : List ℕ) → rebuilt_triangles n refs ≡ triangles_from n refs (rebuilt_wood n refs)
unfolding rebuilt_triangles
triangles_is n refs = refl

-- the decoded mesh is accepted, and has these references
abbrev pub accepted : ℕ → List ℕ → Bool
accepted n refs = eqb (verdict n (rebuilt_triangles n refs) (rebuilt_wood n refs)) 0

abbrev pub given_back : ℕ → List ℕ → Bool
given_back n refs = same_list (references_of n (rebuilt_triangles n refs) (rebuilt_wood n refs)) refs

says_is : (n : ℕ) (refs : List ℕ) → rebuild_says n refs ≡ cond (accepted n refs) (cond (given_back n refs) 0 18) 18
unfolding rebuild_says rebuilt_triangles
says_is n refs = refl

-- by one test: it is 0 exactly where both hold
pub says_both : (n : ℕ) (refs : List ℕ) → eqb (rebuild_says n refs) 0 ≡ (accepted n refs && given_back n refs)
says_both n refs =
    ap (λ (k : ℕ). eqb k 0) (says_is n refs) ∙
    by_bool (accepted n refs) (λ a. by_bool (given_back n refs) (λ b. rw (a, b)) (λ b. rw (a, b))) (λ a. rw a)

pub says_0_or_18 : (n : ℕ) (refs : List ℕ) → (rebuild_says n refs ≡ 0) ⊎ (rebuild_says n refs ≡ 18)
says_0_or_18 n refs =
    by_bool (accepted n refs)
    (λ a. by_bool (given_back n refs) (λ b. inl (says_is n refs ∙ rw (a, b))) (λ b. inr (says_is n refs ∙ rw (a, b))))
    (λ a. inr (says_is n refs ∙ rw a))

pub says_0 : (n : ℕ) (refs : List ℕ) → rebuild_says n refs ≡ 0
    → (verdict n (rebuilt_triangles n refs) (rebuilt_wood n refs) ≡ 0)
    × (references_of n (rebuilt_triangles n refs) (rebuilt_wood n refs) ≡ refs)
says_0 n refs e =
    let s = sym (says_is n refs) ∙ e in
    by_bool (accepted n refs)
    (λ a. by_bool (given_back n refs)
    (λ b. (
      eqb-true (verdict n (rebuilt_triangles n refs) (rebuilt_wood n refs)) 0 a,
      same_list_true (references_of n (rebuilt_triangles n refs) (rebuilt_wood n refs)) refs b,
    ))
    (λ b. absurd (let z : ◌≡◌ {A = ℕ} 18 0 = rw (a, b) at s in omega arith)))
    (λ a. absurd (let z : ◌≡◌ {A = ℕ} 18 0 = rw a at s in omega arith))

pub says_0_of : (n : ℕ) (refs : List ℕ) → verdict n (rebuilt_triangles n refs) (rebuilt_wood n refs) ≡ 0
    → references_of n (rebuilt_triangles n refs) (rebuilt_wood n refs) ≡ refs → rebuild_says n refs ≡ 0
says_0_of n refs v r =
    says_is n refs ∙
    rw (eq-eqb (verdict n (rebuilt_triangles n refs) (rebuilt_wood n refs)) 0 v, r, same_list_refl refs)
