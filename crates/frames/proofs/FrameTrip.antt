-- A frame that stands in a text is read as what was written: its code is its own alone, its body is digits, and its numbers come back.
use Prim.Native.Nat.{ℕ, ◌+◌, ◌-◌, ◌*◌, ◌/◌, ◌%◌, ◌^◌, ◌≤◌, ◌<◌}
use native.Mathlib.Nat.{zero-add, add-zero, mul-zero, mul-one}
use native.Mathlib.Omega.{arith}
use mathlib.Core.Path.{◌≡◌, refl, sym, ◌∙◌, ap}
use mathlib.Core.List.{List, [], ◌∷◌, ◌++◌}
use mathlib.Core.Bool.{true, false}
use lib.ListN.{length, length-append}
use lib.Seq.{get_or_at}
use lib.Dec.{ltb}
use borrow.Author.Tests.{eq-eqb, ltb-true, ltb-false}
use Rattle.mesh.specs.Limits.{at}
use Rattle.mesh.proofs.Tests.{by_bool, by3}
use Rattle.frames.specs.Digits.{digit_of, digits, byte_at, is_digit, digits_at, number_at}
use Rattle.frames.specs.Frames.{line_feed, line, numbers_body, numbers_frame, triple_frame, frame_of}
use Rattle.frames.specs.Lines.{is_line}
use Rattle.frames.proofs.DigitLaws.{length_digits}
use Rattle.frames.proofs.DigitReadLaws.{digits_each, digits_of}
use Rattle.frames.proofs.FrameLaws.{length_line, length_body}
use Rattle.frames.proofs.LineLaws.{line_low, line_end}
use Rattle.frames.proofs.Standing.{Stands, stands_first, stands_second, stands_within, digits_stand, number_stands}
use Rattle.frames.proofs.DigitTrip.{digits_are, digits_again}

-- the parts of a line
line_high_byte : (code : ℕ) (body : List ℕ) → code < 256 → byte_at (line code body) 0 ≡ digit_of (code / 16)
unfolding line
line_high_byte code body l = let z : code / 16 % 16 ≡ code / 16 = omega arith in ap digit_of z

line_low_byte : (code : ℕ) (body : List ℕ) → byte_at (line code body) 1 ≡ digit_of (code % 16)
unfolding line
line_low_byte code body = refl

pub body_stands : (code : ℕ) (body : List ℕ) → Stands (line code body) 2 body
unfolding line
body_stands code body i l =
    stands_second (digits 2 code) (body ++ line_feed ∷ []) 2 (length_digits 2 code) i (omega (arith, length-append body (line_feed ∷ []))) ∙
    (ap (byte_at (body ++ line_feed ∷ [])) (sym (zero-add i)) ∙ stands_first body (line_feed ∷ []) i l)

line_last_byte : (code : ℕ) (body : List ℕ) → byte_at (line code body) (2 + length body) ≡ line_feed
unfolding line
line_last_byte code body =
    stands_second (digits 2 code) (body ++ line_feed ∷ []) 2 (length_digits 2 code) (length body) (omega (arith, length-append body (line_feed ∷ []))) ∙
    get_or_at body line_feed [] 0 (length body) refl

-- a line that stands in a text is that line
module _ (text : List ℕ) (p code : ℕ) (body : List ℕ) (small : code < 256) (s : Stands text p (line code body)) where
  high : byte_at text p ≡ digit_of (code / 16)
  high = ap (byte_at text) (sym (add-zero p)) ∙ s 0 (omega (arith, length_line code body)) ∙ line_high_byte code body small

  low : byte_at text (p + 1) ≡ digit_of (code % 16)
  low = s 1 (omega (arith, length_line code body)) ∙ line_low_byte code body

  pub line_there : (m : ℕ) → length body ≡ m → digits_at m body 0 ≡ true → is_line code m text p ≡ true
  line_there m e d =
      let b : Stands text (p + 2) body = stands_within text (line code body) body p 2 s (body_stands code body) (omega (arith, length_line code body)) in
      let g : digits_at m text (p + 2) ≡ true = ap (digits_at m text) (sym (add-zero (p + 2))) ∙ digits_stand text body (p + 2) 0 m b (omega arith) d in
      line_end code m text p high low g ∙
      eq-eqb (byte_at text (p + 2 + m)) line_feed
      (ap (byte_at text) (let z : p + 2 + m ≡ p + (2 + length body) = omega arith in z) ∙ s (2 + length body) (omega (arith, length_line code body)) ∙ line_last_byte code body)

  -- and no line of a code that differs in its second digit
  pub line_no_other : (other m : ℕ) → other < 16 → code / 16 ≡ 0 → (digit_of (code % 16) ≡ digit_of (other % 16) → ⊥) → is_line other m text p ≡ false
  line_no_other other m l z n =
      line_low other m text p (high ∙ ap digit_of (let y : code / 16 ≡ other / 16 = omega arith in y)) (λ e. n (sym low ∙ e))

-- digits after digits
digits_append : (xs ys : List ℕ) → digits_at (length xs) xs 0 ≡ true → digits_at (length ys) ys 0 ≡ true → digits_at (length (xs ++ ys)) (xs ++ ys) 0 ≡ true
digits_append xs ys d e =
    digits_of (length (xs ++ ys)) (xs ++ ys) 0
    (λ i l. by_bool (ltb i (length xs))
    (λ t.
    let g : i < length xs = ltb-true i (length xs) t in
    ap is_digit (stands_first xs ys i g ∙ ap (byte_at xs) (sym (zero-add i))) ∙ digits_each (length xs) xs 0 i d g)
    (λ t.
    let g : length xs ≤ i = ltb-false i (length xs) t in
    let j : ℕ = i - length xs in
    let h : j < length ys = omega (arith, length-append xs ys) in
    let z : 0 + i ≡ length xs + j = omega arith in
    ap (λ (k : ℕ). is_digit (byte_at (xs ++ ys) k)) z ∙
    ap is_digit (stands_second xs ys (length xs) refl j h ∙ ap (byte_at ys) (sym (zero-add j))) ∙ digits_each (length ys) ys 0 j e h))

number_digits : (k x : ℕ) → digits_at (length (digits k x)) (digits k x) 0 ≡ true
number_digits k x = ap (λ (m : ℕ). digits_at m (digits k x) 0) (length_digits k x) ∙ digits_are k x

-- the body of a frame of three numbers and k digits more
module _ (w a b c k x : ℕ) where
  abbrev all : List ℕ
  all = numbers_body w a b c k x

  abbrev one : List ℕ
  one = digits w c ++ digits k x

  abbrev two : List ℕ
  two = digits w b ++ one

  body_digits : digits_at (3 * w + k) all 0 ≡ true
  body_digits =
      ap (λ (m : ℕ). digits_at m all 0) (sym (length_body w a b c k x)) ∙
      digits_append (digits w a) two (number_digits w a)
      (digits_append (digits w b) one (number_digits w b) (digits_append (digits w c) (digits k x) (number_digits w c) (number_digits k x)))

  number_1 : a < 16 ^ w → number_at w all 0 ≡ a
  number_1 l =
      number_stands all (digits w a) 0 0 w (stands_first (digits w a) two) (omega (arith, length_digits w a)) ∙ digits_again w a l

  two_stands : Stands all w two
  two_stands = stands_second (digits w a) two w (length_digits w a)

  one_stands : Stands two w one
  one_stands = stands_second (digits w b) one w (length_digits w b)

  number_2 : b < 16 ^ w → number_at w all w ≡ b
  number_2 l =
      ap (number_at w all) (sym (add-zero w)) ∙
      number_stands all two w 0 w two_stands (simp (length-append, length_digits) (omega arith)) ∙
      number_stands two (digits w b) 0 0 w (stands_first (digits w b) one) (omega (arith, length_digits w b)) ∙ digits_again w b l

  number_3 : c < 16 ^ w → number_at w all (w + w) ≡ c
  number_3 l =
      number_stands all two w w w two_stands (simp (length-append, length_digits) (omega arith)) ∙
      ap (number_at w two) (sym (add-zero w)) ∙
      number_stands two one w 0 w one_stands (simp (length-append, length_digits) (omega arith)) ∙
      number_stands one (digits w c) 0 0 w (stands_first (digits w c) (digits k x)) (omega (arith, length_digits w c)) ∙ digits_again w c l

-- a frame of three numbers that stands in a text is a line of its code, and of no other
module _ (text : List ℕ) (p w code a b c : ℕ) (small : code < 16) (s : Stands text p (triple_frame w code a b c)) where
  pub triple_there : is_line code (3 * w) text p ≡ true
  unfolding triple_frame numbers_frame
  triple_there =
      line_there text p code (numbers_body w a b c 0 0) (omega arith) s (3 * w) (omega (arith, length_body w a b c 0 0))
      (ap (λ (m : ℕ). digits_at m (numbers_body w a b c 0 0) 0) (sym (add-zero (3 * w))) ∙ body_digits w a b c 0 0)

  pub triple_no_other : (other : ℕ) → other < 16 → (digit_of code ≡ digit_of other → ⊥) → is_line other (3 * w) text p ≡ false
  unfolding triple_frame numbers_frame
  triple_no_other other l n =
      line_no_other text p code (numbers_body w a b c 0 0) (omega arith) s other (3 * w) l (omega arith)
      (λ e. n (ap digit_of (let z : code ≡ code % 16 = omega arith in z) ∙ e ∙ ap digit_of (let z : other % 16 ≡ other = omega arith in z)))

-- the numbers of frame i of a table
module _ (w code : ℕ) (xs : List ℕ) (i : ℕ) (small : (j : ℕ) → j < length xs → at xs j < 16 ^ w) (inside : 3 * i + 2 < length xs) where
  in_body : (q : ℕ) → q + w ≤ 3 * w
      → number_at w (frame_of w code xs i) (2 + q) ≡ number_at w (numbers_body w (at xs (3 * i)) (at xs (3 * i + 1)) (at xs (3 * i + 2)) 0 0) q
  unfolding triple_frame numbers_frame
  in_body q l =
      let a = at xs (3 * i) in
      let b = at xs (3 * i + 1) in
      let c = at xs (3 * i + 2) in
      let body = numbers_body w a b c 0 0 in
      number_stands (line code body) body 2 q w (body_stands code body) (omega (arith, length_body w a b c 0 0))

  pub number_of : (k : ℕ) → k < 3 → number_at w (frame_of w code xs i) (2 + w * k) ≡ at xs (3 * i + k)
  number_of k l =
      let a = at xs (3 * i) in
      let b = at xs (3 * i + 1) in
      let c = at xs (3 * i + 2) in
      by3 k l
      (λ e. ap (λ (q : ℕ). number_at w (frame_of w code xs i) (2 + q)) (ap (λ (j : ℕ). w * j) e ∙ mul-zero w) ∙ in_body 0 (omega arith) ∙ number_1 w a b c 0 0 (small (3 * i) (omega arith)) ∙
      ap (at xs) (let z : 3 * i ≡ 3 * i + k = omega arith in z))
      (λ e. ap (λ (q : ℕ). number_at w (frame_of w code xs i) (2 + q)) (ap (λ (j : ℕ). w * j) e ∙ mul-one w) ∙ in_body w (omega arith) ∙ number_2 w a b c 0 0 (small (3 * i + 1) (omega arith)) ∙
      ap (λ (j : ℕ). at xs (3 * i + j)) (sym e))
      (λ e. ap (λ (q : ℕ). number_at w (frame_of w code xs i) (2 + q)) (ap (λ (j : ℕ). w * j) e ∙ twice w) ∙ in_body (w + w) (omega arith) ∙ number_3 w a b c 0 0 (small (3 * i + 2) inside) ∙
      ap (λ (j : ℕ). at xs (3 * i + j)) (sym e))
    where
      twice : (w : ℕ) → w * 2 ≡ w + w
      twice w = omega arith
