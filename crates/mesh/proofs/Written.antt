-- What each place of the references writes in a rebuild: a triangle, or nothing. A place is an edge with a hand.
use Prim.Native.Nat.{ℕ, ◌/◌, ◌%◌}
use mathlib.Core.Path.{◌≡◌, refl, ap, ◌∙◌}
use mathlib.Core.List.{List, []}
use mathlib.Core.Bool.{Bool, true, false, cond, ◌&&◌}
use mathlib.Core.Logic.{◌≢◌}
use native.Mathlib.Omega.{arith}
use lib.ListN.{length}
use lib.Dec.{eqb}
use borrow.Author.Tests.{eqb-true, eqb-false}
use Rattle.mesh.specs.Wood.{used}
use Rattle.mesh.specs.Array.{Hand, left, right, front_place, hand_at}
use Rattle.mesh.specs.Rebuild.{is_lowest, triangle_beside, written_at}
use Rattle.mesh.proofs.Tests.{by_bool}

-- place i is the Front's place of edge i / 2 on its hand
pub place_of_holds : (i : ℕ) → front_place (hand_at i) (i / 2) ≡ i
place_of_holds i =
    by_bool (eqb (i % 2) 0) (λ t. rw t (let e = eqb-true (i % 2) 0 t in omega arith))
    (λ t. rw t (let e : i % 2 ≢ 0 = eqb-false (i % 2) 0 t in omega arith))

-- whether a place writes; then what, and how much
abbrev pub writes : List ℕ → List ℕ → ℕ → Bool
writes refs ws i = used (i / 2) && is_lowest (hand_at i) refs ws (i / 2)

pub length_beside : (h : Hand) (refs ws : List ℕ) (j : ℕ) → length (triangle_beside h refs ws j) ≡ 3
length_beside left refs ws j = refl
length_beside right refs ws j = refl

module _ (refs ws : List ℕ) (i : ℕ) where
  pub written_here : writes refs ws i ≡ true → written_at refs ws i ≡ triangle_beside (hand_at i) refs ws (i / 2)
  unfolding written_at
  written_here t = rw t

  pub written_none : writes refs ws i ≡ false → written_at refs ws i ≡ []
  unfolding written_at
  written_none t = rw t

  pub written_length : length (written_at refs ws i) ≡ cond (writes refs ws i) 3 0
  written_length =
      by_bool (writes refs ws i) (λ t. rw t (ap length (written_here t) ∙ length_beside (hand_at i) refs ws (i / 2)))
      (λ t. rw t (ap length (written_none t)))
