-- Digits of one number that spell several: the last k of a number do not depend on what stands above them, and two numbers side by
-- side are one. So an answer's bytes are the digits of one number.
use Prim.Native.Nat.{ℕ, zero, suc, ◌+◌, ◌*◌, ◌/◌, ◌%◌, ◌^◌, ◌<◌}
use native.Mathlib.Nat.{add-zero, add-suc, mul_left_comm, pow-succ', div-add-mod'}
use native.Mathlib.Omega.{arith}
use mathlib.Core.Path.{◌≡◌, refl, sym, ◌∙◌, ap, ap₂}
use mathlib.Core.List.{List, [], ◌∷◌, ◌++◌, append-nil, append_assoc}
use Rattle.frames.specs.Digits.{digit_of, digits}
use Rattle.frames.specs.Frames.{width}
use Rattle.arraytext.specs.AnswerLines.{numbers, field, value_length, Spells}

shifted : (x k : ℕ) → x * 16 ^ suc k ≡ 16 * (x * 16 ^ k)
shifted x k = ap (λ (p : ℕ). x * p) (pow-succ' 16 k) ∙ mul_left_comm x 16 (16 ^ k)

-- the last digit of a number with x above y, and those before it
module _ (x k y : ℕ) where
  last_below : (x * 16 ^ suc k + y) % 16 ≡ y % 16
  last_below = let e = shifted x k in omega arith

  rest_above : (x * 16 ^ suc k + y) / 16 ≡ x * 16 ^ k + y / 16
  rest_above = let e = shifted x k in omega arith

pub digits_last : (k x y : ℕ) → digits k (x * 16 ^ k + y) ≡ digits k y
unfolding digits
digits_last zero x y = refl
digits_last (suc k) x y =
    ap₂ (λ (a b : ℕ). digits k a ++ digit_of b ∷ []) (rest_above x k y) (last_below x k y) ∙
    ap (λ (l : List ℕ). l ++ digit_of (y % 16) ∷ []) (digits_last k x (y / 16))

pub digits_cut : (k y : ℕ) → digits k (y % 16 ^ k) ≡ digits k y
digits_cut k y = sym (ap (digits k) (sym (div-add-mod' y (16 ^ k))) ∙ digits_last k (y / 16 ^ k) (y % 16 ^ k))

pub digits_join : (j k x y : ℕ) → y < 16 ^ k → digits (j + k) (x * 16 ^ k + y) ≡ digits j x ++ digits k y
unfolding digits
digits_join j zero x y l =
    let e : x * 16 ^ zero + y ≡ x = omega arith in
    ap₂ digits (add-zero j) e ∙ sym (append-nil (digits j x))
digits_join j (suc k) x y l =
    ap (λ (m : ℕ). digits m (x * 16 ^ suc k + y)) (add-suc j k) ∙
    ap₂ (λ (a b : ℕ). digits (j + k) a ++ digit_of b ∷ []) (rest_above x k y) (last_below x k y) ∙
    ap (λ (l : List ℕ). l ++ digit_of (y % 16) ∷ []) (digits_join j k x (y / 16) (omega (arith, pow-succ' 16 k))) ∙
    append_assoc (digits j x) (digits k (y / 16)) (digit_of (y % 16) ∷ [])

-- a number of any size, behind others
pub number_behind : (j x y : ℕ) → digits (j + width) (x * 16 ^ width + y % 16 ^ width) ≡ digits j x ++ digits width y
number_behind j x y =
    digits_join j width x (y % 16 ^ width) (omega arith) ∙ ap (λ (l : List ℕ). digits j x ++ l) (digits_cut width y)

-- a refusal, an answer of one value, and one of two
pub refusal_spelled : (k : ℕ) → k < 256 → Spells value_length (record { count = 4; value = 240 * 256 + k }) (k ∷ [])
unfolding field
refusal_spelled k l = record { few = omega arith; spelled = digits_join 2 2 240 k l }

one_value : (v : ℕ) → digits (1 + width) (v % 16 ^ width) ≡ field (0 ∷ v ∷ [])
unfolding field numbers
one_value v =
    ap (digits (1 + width)) (let z : v % 16 ^ width ≡ 0 * 16 ^ width + v % 16 ^ width = omega arith in z) ∙ number_behind 1 0 v ∙
    ap (λ (l : List ℕ). digits 1 0 ++ l) (sym (append-nil (digits width v)))

pub value_spelled : (v : ℕ) → Spells value_length (record { count = 1 + width; value = v % 16 ^ width }) (0 ∷ v ∷ [])
value_spelled v = record { few = omega arith; spelled = one_value v }

pub values_spelled : (v w : ℕ) → Spells (value_length + width) (record { count = 1 + 2 * width; value = v % 16 ^ width * 16 ^ width + w % 16 ^ width }) (0 ∷ v ∷ w ∷ [])
unfolding field numbers
values_spelled v w = record {
  few = omega arith;
  spelled = number_behind (1 + width) (v % 16 ^ width) w ∙ ap (λ (l : List ℕ). l ++ digits width w) (one_value v) ∙ simp (append_assoc, append-nil);
}
