-- The comparison of two lists: it passes exactly where they are equal.
use Prim.Native.Nat.{ℕ}
use mathlib.Core.Path.{◌≡◌, refl, ap₂}
use mathlib.Core.List.{List, [], ◌∷◌}
use mathlib.Core.Bool.{true, false}
use lib.Dec.{eqb}
use borrow.Author.Tests.{eqb-true, eq-eqb}
use Rattle.mesh.specs.Rebuild.{same_list}
use Rattle.mesh.proofs.Tests.{clash, and_true, and_of}

pub same_list_true : (xs ys : List ℕ) → same_list xs ys ≡ true → xs ≡ ys
unfolding same_list
same_list_true [] [] e = refl
same_list_true [] (y ∷ ys) e = clash false e refl
same_list_true (x ∷ xs) [] e = clash false e refl
same_list_true (x ∷ xs) (y ∷ ys) e =
    let t = and_true (eqb x y) (same_list xs ys) e in
    ap₂ (λ a b. a ∷ b) (eqb-true x y t.0) (same_list_true xs ys t.1)

pub same_list_refl : (xs : List ℕ) → same_list xs xs ≡ true
unfolding same_list
same_list_refl [] = refl
same_list_refl (x ∷ xs) = and_of (eqb x x) (same_list xs xs) (eq-eqb x x refl) (same_list_refl xs)
