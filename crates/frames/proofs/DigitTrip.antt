-- Digits written and read again: they are digits, and they are the number.
use Prim.Native.Nat.{ℕ, zero, suc, ◌+◌, ◌*◌, ◌/◌, ◌%◌, ◌^◌, ◌<◌}
use native.Mathlib.Nat.{zero-add, pow-suc}
use native.Mathlib.Omega.{arith}
use mathlib.Core.Path.{◌≡◌, ◌∙◌, ap, ap₂}
use mathlib.Core.List.{List, [], ◌∷◌}
use mathlib.Core.Bool.{true}
use lib.Seq.{get_or_at}
use lib.Dec.{ltb, eqb}
use borrow.Author.Tests.{ltb-true, ltb-false, lt-ltb, eqb-true, eqb-false}
use Rattle.mesh.proofs.Tests.{by_bool}
use Rattle.frames.specs.Digits.{digit_of, digits, byte_at, is_digit, digit_value, digits_at, number_at}
use Rattle.frames.proofs.DigitLaws.{digits_more, length_digits}
use Rattle.frames.proofs.DigitReadLaws.{digit_decimal, digit_letter, value_decimal, value_letter, digits_each, digits_of, number_none, number_more}
use Rattle.frames.proofs.Standing.{Stands, stands_first, digits_stand, number_stands}

-- one digit
pub digit_is : (d : ℕ) → d < 16 → is_digit (digit_of d) ≡ true
digit_is d l =
    by_bool (ltb d 10) (λ t. rw t (digit_decimal (48 + d) (omega arith) (omega (arith, ltb-true d 10 t))))
    (λ t. rw t (digit_letter (55 + d) (omega (arith, ltb-false d 10 t)) ∙ lt-ltb (55 + d) 71 (omega arith)))

pub digit_again : (d : ℕ) → d < 16 → digit_value (digit_of d) ≡ d
digit_again d l =
    by_bool (ltb d 10) (λ t. rw t (value_decimal (48 + d) (omega (arith, ltb-true d 10 t)) ∙ omega arith))
    (λ t. rw t (value_letter (55 + d) (omega (arith, ltb-false d 10 t)) ∙ omega arith))

last_digit : (k x : ℕ) → byte_at (digits (suc k) x) k ≡ digit_of (x % 16)
last_digit k x = ap (λ (l : List ℕ). byte_at l k) (digits_more k x) ∙ get_or_at (digits k (x / 16)) (digit_of (x % 16)) [] 0 k (length_digits k (x / 16))

front_stands : (k x : ℕ) → Stands (digits (suc k) x) 0 (digits k (x / 16))
front_stands k x = rw (digits_more k x) (stands_first (digits k (x / 16)) (digit_of (x % 16) ∷ []))

pub digits_are : (k x : ℕ) → digits_at k (digits k x) 0 ≡ true
digits_are zero x = digits_of zero (digits zero x) 0 (λ i l. absurd (omega arith))
digits_are (suc k) x =
    digits_of (suc k) (digits (suc k) x) 0
    (λ i l. by_bool (eqb i k)
    (λ t. rw (zero-add i, eqb-true i k t, last_digit k x) (digit_is (x % 16) (omega arith)))
    (λ t.
    let n : i ≡ k → ⊥ = eqb-false i k t in
    let s = digits_stand (digits (suc k) x) (digits k (x / 16)) 0 0 k (front_stands k x) (omega (arith, length_digits k (x / 16))) (digits_are k (x / 16)) in
    digits_each k (digits (suc k) x) 0 i s (omega arith)))

pub digits_again : (k x : ℕ) → x < 16 ^ k → number_at k (digits k x) 0 ≡ x
digits_again zero x l = number_none (digits zero x) 0 ∙ omega arith
digits_again (suc k) x l =
    let h : x / 16 < 16 ^ k = omega (arith, pow-suc 16 k) in
    let a = number_stands (digits (suc k) x) (digits k (x / 16)) 0 0 k (front_stands k x) (omega (arith, length_digits k (x / 16))) ∙ digits_again k (x / 16) h in
    number_more k (digits (suc k) x) 0 ∙
    ap₂ (λ (a b : ℕ). 16 * a + digit_value b) a (ap (byte_at (digits (suc k) x)) (zero-add k) ∙ last_digit k x) ∙
    ap (λ (d : ℕ). 16 * (x / 16) + d) (digit_again (x % 16) (omega arith)) ∙ omega arith
