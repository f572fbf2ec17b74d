-- Digits read: which bytes are digits, what k of them write, and how large that is at most.
use Prim.Native.Nat.{ℕ, zero, suc, ◌+◌, ◌-◌, ◌*◌, ◌%◌, ◌^◌, ◌≤◌, ◌<◌}
use native.Mathlib.Nat.{pow-suc}
use native.Mathlib.Numerals.{add-one}
use native.Mathlib.Omega.{arith}
use mathlib.Core.Path.{◌≡◌, refl, sym, ◌∙◌, ap}
use mathlib.Core.List.{List, [], ◌∷◌, ◌++◌}
use mathlib.Core.Bool.{true, ◌&&◌}
use lib.Dec.{leb, ltb}
use borrow.Author.Tests.{leb-true, ltb-true, lt-ltb, le-ltb, le-leb}
use Rattle.std.specs.List.{fold, range_with_len}
use Rattle.std.proofs.lemmas.List.{map-id}
use Rattle.std.proofs.lemmas.List.FromFn.{map-range_with_len_more}
use Rattle.std.proofs.lemmas.List.Sums.{fold_push}
use Rattle.mesh.proofs.Tests.{and_true, or_true}
use Rattle.mesh.proofs.Search.{every_at, every_of}
use Rattle.frames.specs.Digits.{byte_at, is_digit, digit_value, digits_at, number_at}

-- the two kinds of digits
pub by_digit {ℓ} : {A : Type ℓ} (b : ℕ) → is_digit b ≡ true → (48 ≤ b → b < 58 → A) → (65 ≤ b → b < 71 → A) → A
unfolding is_digit
by_digit b e f g =
    or_true (leb 48 b && ltb b 58) (leb 65 b && ltb b 71) e
    (λ t. let u = and_true (leb 48 b) (ltb b 58) t in f (leb-true 48 b u.0) (ltb-true b 58 u.1))
    (λ t. let u = and_true (leb 65 b) (ltb b 71) t in g (leb-true 65 b u.0) (ltb-true b 71 u.1))

pub digit_decimal : (b : ℕ) → 48 ≤ b → b < 58 → is_digit b ≡ true
unfolding is_digit
digit_decimal b l g = rw (le-leb 48 b l, lt-ltb b 58 g)

pub digit_letter : (b : ℕ) → 65 ≤ b → is_digit b ≡ ltb b 71
unfolding is_digit
digit_letter b l = let h : 48 ≤ b = omega arith in let g : 58 ≤ b = omega arith in rw (le-leb 48 b h, le-ltb b 58 g, le-leb 65 b l)

pub value_decimal : (b : ℕ) → b < 65 → digit_value b ≡ b - 48
unfolding digit_value
value_decimal b l = rw (lt-ltb b 65 l)

pub value_letter : (b : ℕ) → 65 ≤ b → digit_value b ≡ b - 55
unfolding digit_value
value_letter b l = rw (le-ltb b 65 l)

pub value_below : (b : ℕ) → is_digit b ≡ true → digit_value b < 16
value_below b e =
    by_digit b e (λ l g. omega (arith, value_decimal b (omega arith))) (λ l g. omega (arith, value_letter b l))

pub digits_each : (k : ℕ) (text : List ℕ) (p i : ℕ) → digits_at k text p ≡ true → i < k → is_digit (byte_at text (p + i)) ≡ true
unfolding digits_at
digits_each k text p i e l = every_at (λ i. is_digit (byte_at text (p + i))) k e i l

pub digits_of : (k : ℕ) (text : List ℕ) (p : ℕ) → ((i : ℕ) → i < k → is_digit (byte_at text (p + i)) ≡ true) → digits_at k text p ≡ true
unfolding digits_at
digits_of k text p h = every_of (λ i. is_digit (byte_at text (p + i))) k h

-- digits among digits
pub digits_within : (k : ℕ) (text : List ℕ) (p m q i : ℕ) → digits_at k text p ≡ true → q ≡ p + i → i + m ≤ k → digits_at m text q ≡ true
digits_within k text p m q i e s l =
    digits_of m text q (λ j g. let z : q + j ≡ p + (i + j) = omega arith in rw z (digits_each k text p (i + j) e (omega arith)))

pub number_none : (text : List ℕ) (p : ℕ) → number_at 0 text p ≡ 0
unfolding number_at
number_none text p = refl

pub number_more : (k : ℕ) (text : List ℕ) (p : ℕ) → number_at (suc k) text p ≡ 16 * number_at k text p + digit_value (byte_at text (p + k))
unfolding number_at
number_more k text p = refl

-- one digit more, modulo what a u16 holds
abbrev pub digit_more : List ℕ → ℕ → ℕ → ℕ → ℕ
digit_more text p value i = (value * 16 % 65536 + digit_value (byte_at text (p + i))) % 65536

row_more : (k : ℕ) → range_with_len 0 (k + 1) ≡ range_with_len 0 k ++ k ∷ []
row_more k = sym (map-id _) ∙ map-range_with_len_more (λ i. i) 0 k k (omega arith) ∙ ap (λ l. l ++ k ∷ []) (map-id _)

pub number_folded : (k : ℕ) (text : List ℕ) (p : ℕ) → fold (digit_more text p) 0 (range_with_len 0 k) ≡ number_at k text p % 65536
number_folded zero text p = omega (arith, number_none text p)
number_folded (suc k) text p =
    let e : fold (digit_more text p) 0 (range_with_len 0 (suc k)) ≡ digit_more text p (fold (digit_more text p) 0 (range_with_len 0 k)) k =
    ap (λ j. fold (digit_more text p) 0 (range_with_len 0 j)) (sym (add-one k)) ∙ ap (fold (digit_more text p) 0) (row_more k) ∙ fold_push (digit_more text p) 0 (range_with_len 0 k) k in
    e ∙ omega (arith, number_folded k text p, number_more k text p)

-- k digits write less than 16 to the k
pub number_below : (k : ℕ) (text : List ℕ) (p : ℕ) → digits_at k text p ≡ true → number_at k text p < 16 ^ k
number_below zero text p e = omega (arith, number_none text p)
number_below (suc k) text p e =
    omega (
      arith,
      number_more k text p,
      pow-suc 16 k,
      value_below (byte_at text (p + k)) (digits_each (suc k) text p k e (omega arith)),
      number_below k text p (digits_within (suc k) text p k p 0 e (omega arith) (omega arith)),
    )

power_small : (k : ℕ) → k ≤ 4 → 16 ^ k ≤ 65536
power_small zero l = omega arith
power_small (suc zero) l = omega arith
power_small (suc (suc zero)) l = omega arith
power_small (suc (suc (suc zero))) l = omega arith
power_small (suc (suc (suc (suc zero)))) l = omega arith
power_small (suc (suc (suc (suc (suc k))))) l = absurd (omega arith)

pub number_small : (k : ℕ) (text : List ℕ) (p : ℕ) → k ≤ 4 → digits_at k text p ≡ true → number_at k text p < 65536
number_small k text p l e = omega (arith, number_below k text p e, power_small k l)

-- four digits lose nothing
pub number_whole : (k : ℕ) (text : List ℕ) (p : ℕ) → k ≤ 4 → digits_at k text p ≡ true → number_at k text p % 65536 ≡ number_at k text p
number_whole k text p l e = let s = number_small k text p l e in omega arith
