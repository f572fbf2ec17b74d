-- Digits: how many there are, what they are one by one, and that reading what was written gives the number back.
use Prim.Native.Nat.{ℕ, zero, suc, ◌+◌, ◌-◌, ◌/◌, ◌%◌, ◌≤◌, ◌<◌}
use native.Mathlib.Numerals.{add-one}
use native.Mathlib.Omega.{arith}
use mathlib.Core.Path.{◌≡◌, refl, ◌∙◌, ap}
use mathlib.Core.List.{List, [], ◌∷◌, ◌++◌, append_assoc}
use lib.ListN.{length, set, drop, length-append}
use Rattle.std.proofs.lemmas.List.{drop-set}
use Rattle.frames.specs.Digits.{digit_of, digits}

pub digits_more : (k x : ℕ) → digits (suc k) x ≡ digits k (x / 16) ++ digit_of (x % 16) ∷ []
unfolding digits
digits_more k x = refl

pub length_digits : (k x : ℕ) → length (digits k x) ≡ k
unfolding digits
length_digits zero x = refl
length_digits (suc k) x =
    length-append (digits k (x / 16)) (digit_of (x % 16) ∷ []) ∙ ap (λ (m : ℕ). m + 1) (length_digits k (x / 16)) ∙ add-one k

-- one digit more stored before those that are
pub digits_stored : (places : List ℕ) (k x d : ℕ) → 0 < k → k ≤ length places → d ≡ digit_of (x % 16)
    → digits (k - 1) (x / 16) ++ drop (k - 1) (set places (k - 1) d) ≡ digits k x ++ drop k places
digits_stored places zero x d l g e = absurd (omega arith)
digits_stored places (suc k) x d l g e =
    let s : suc k - 1 ≡ k = omega arith in
    rw (s, drop-set places k d (omega arith), e, add-one, digits_more k x, append_assoc)
