-- Tests and case splits: how a Bool that is true or false is put to use.
use Prim.Native.Nat.{ℕ, ◌≤◌, ◌<◌}
use mathlib.Core.Path.{◌≡◌, refl, sym}
use mathlib.Core.Bool.{Bool, true, false, ◌&&◌, ◌||◌}
use mathlib.Core.Logic.{◌≢◌}
use native.Mathlib.Omega.{arith}
use lib.Dec.{ltb, eqb}
use borrow.Author.Tests.{eqb-true, eqb-false, ltb-true, ltb-false}

-- a case split on a test that keeps the equation
pub by_bool {ℓ} : {A : Type ℓ} (b : Bool) → (b ≡ true → A) → (b ≡ false → A) → A
by_bool true t f = t refl
by_bool false t f = f refl

-- a test is not both
pub clash {ℓ} : {A : Type ℓ} (b : Bool) → b ≡ true → b ≡ false → A
clash b t f = absurd (let z : ◌≡◌ {A = ℕ} 0 1 = cc in omega arith)

pub and_true : (a b : Bool) → (a && b) ≡ true → (a ≡ true) × (b ≡ true)
and_true true b e = (refl, e)
and_true false b e = clash false e refl

pub and_of : (a b : Bool) → a ≡ true → b ≡ true → (a && b) ≡ true
and_of a b p q = rw (p, q)

pub and_false_left : (a b : Bool) → a ≡ false → (a && b) ≡ false
and_false_left a b e = rw e

pub and_false_right : (a b : Bool) → b ≡ false → (a && b) ≡ false
and_false_right true b e = e
and_false_right false b e = refl

-- where a conjunction fails one part does
pub and_fails {ℓ} : {A : Type ℓ} (a b : Bool) → (a && b) ≡ false → (a ≡ false → A) → (b ≡ false → A) → A
and_fails true b e f g = g e
and_fails false b e f g = f refl

pub or_true {ℓ} : {A : Type ℓ} (a b : Bool) → (a || b) ≡ true → (a ≡ true → A) → (b ≡ true → A) → A
or_true true b e f g = f refl
or_true false b e f g = g e

pub or_left : (a b : Bool) → a ≡ true → (a || b) ≡ true
or_left a b e = rw e

pub or_right : (a b : Bool) → b ≡ true → (a || b) ≡ true
or_right true b e = refl
or_right false b e = e

pub or_false : (a b : Bool) → (a || b) ≡ false → (a ≡ false) × (b ≡ false)
or_false true b e = clash true refl e
or_false false b e = (refl, e)

pub or_none : (a b : Bool) → a ≡ false → b ≡ false → (a || b) ≡ false
or_none a b p q = rw (p, q)

-- two tests that imply each other are equal
pub same_test : (a b : Bool) → (a ≡ true → b ≡ true) → (b ≡ true → a ≡ true) → a ≡ b
same_test true b f g = sym (f refl)
same_test false true f g = g refl
same_test false false f g = refl

-- a number below 3 is a colour
pub by3 {ℓ} : {A : Type ℓ} (x : ℕ) → x < 3 → (x ≡ 0 → A) → (x ≡ 1 → A) → (x ≡ 2 → A) → A
by3 x l f g h =
    by_bool (eqb x 0) (λ t. f (eqb-true x 0 t))
    (λ t. by_bool (eqb x 1) (λ u. g (eqb-true x 1 u))
    (λ u.
    let a : x ≢ 0 = eqb-false x 0 t in
    let b : x ≢ 1 = eqb-false x 1 u in
    h (omega arith)))

-- a number is below another, equal to it or above it
pub by_order {ℓ} : {A : Type ℓ} (x y : ℕ) → (x < y → A) → (x ≡ y → A) → (y < x → A) → A
by_order x y f g h =
    by_bool (ltb x y) (λ t. f (ltb-true x y t))
    (λ t.
    let a : y ≤ x = ltb-false x y t in
    by_bool (ltb y x) (λ u. h (ltb-true y x u)) (λ u. let b : x ≤ y = ltb-false y x u in g (omega arith)))
