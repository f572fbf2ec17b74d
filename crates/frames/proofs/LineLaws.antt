-- A line at a place of a text: the code, the digits, the line feed, tested in this order. All of it lies within the text.
use Prim.Native.Nat.{ℕ, ◌+◌, ◌/◌, ◌%◌, ◌≤◌, ◌<◌}
use native.Mathlib.Omega.{arith}
use mathlib.Core.Path.{◌≡◌, refl, sym, ◌∙◌}
use mathlib.Core.List.{List}
use mathlib.Core.Bool.{true, false, ◌&&◌}
use lib.ListN.{length, get_or-eq_default}
use lib.Dec.{eqb, leb}
use borrow.Author.Tests.{eqb-true, eq-eqb, ne_eqb, leb-true, leb-false}
use Rattle.mesh.proofs.Tests.{by_bool, and_true}
use Rattle.frames.specs.Digits.{digit_of, byte_at, digits_at, number_at}
use Rattle.frames.specs.Frames.{line_feed}
use Rattle.frames.specs.Lines.{is_line}
use Rattle.frames.proofs.DigitReadLaws.{digits_within, number_whole}

module _ (code m : ℕ) (text : List ℕ) (p : ℕ) where
  pub line_is : is_line code m text p ≡
      (eqb (byte_at text p) (digit_of (code / 16)) && (eqb (byte_at text (p + 1)) (digit_of (code % 16)) &&
      (digits_at m text (p + 2) && eqb (byte_at text (p + 2 + m)) line_feed)))
  unfolding is_line
  line_is = refl

  module _ (high : byte_at text p ≡ digit_of (code / 16)) where
    pub line_low : (byte_at text (p + 1) ≡ digit_of (code % 16) → ⊥) → is_line code m text p ≡ false
    line_low h =
        line_is ∙
        rw (eq-eqb (byte_at text p) (digit_of (code / 16)) high, ne_eqb (byte_at text (p + 1)) (digit_of (code % 16)) h)

    module _ (low : byte_at text (p + 1) ≡ digit_of (code % 16)) where
      line_coded : is_line code m text p ≡ (digits_at m text (p + 2) && eqb (byte_at text (p + 2 + m)) line_feed)
      line_coded =
          line_is ∙
          rw (eq-eqb (byte_at text p) (digit_of (code / 16)) high, eq-eqb (byte_at text (p + 1)) (digit_of (code % 16)) low)

      pub line_end : digits_at m text (p + 2) ≡ true → is_line code m text p ≡ eqb (byte_at text (p + 2 + m)) line_feed
      line_end h = line_coded ∙ rw h

  -- what stands where a line stands
  pub line_parts : is_line code m text p ≡ true
      → (byte_at text p ≡ digit_of (code / 16)) × (byte_at text (p + 1) ≡ digit_of (code % 16)) × (digits_at m text (p + 2) ≡ true) × (byte_at text (p + 2 + m) ≡ line_feed)
  line_parts e =
      let a = and_true (eqb (byte_at text p) (digit_of (code / 16))) _ (sym line_is ∙ e) in
      let b = and_true (eqb (byte_at text (p + 1)) (digit_of (code % 16))) _ a.1 in
      let d = and_true (digits_at m text (p + 2)) _ b.1 in (
        eqb-true (byte_at text p) (digit_of (code / 16)) a.0,
        eqb-true (byte_at text (p + 1)) (digit_of (code % 16)) b.0,
        d.0,
        eqb-true (byte_at text (p + 2 + m)) line_feed d.1,
      )

  -- a number of its body is read whole
  pub line_number : is_line code m text p ≡ true → (q i k : ℕ) → q ≡ p + 2 + i → i + k ≤ m → k ≤ 4 → number_at k text q % 65536 ≡ number_at k text q
  line_number e q i k s l g = number_whole k text q g (digits_within m text (p + 2) k q i (line_parts e).2 s l)

  -- no line reaches past the end of the text
  pub line_inside : is_line code m text p ≡ true → p + 3 + m ≤ length text
  line_inside e =
      by_bool (leb (p + 3 + m) (length text)) (λ t. leb-true (p + 3 + m) (length text) t)
      (λ t.
      let g : length text ≤ p + 2 + m = omega (arith, leb-false (p + 3 + m) (length text) t) in
      let a : byte_at text (p + 2 + m) ≡ line_feed = (line_parts e).3 in
      let b : byte_at text (p + 2 + m) ≡ 0 = get_or-eq_default text 0 g in
      absurd (omega arith))

  pub line_outside : length text < p + 3 + m → is_line code m text p ≡ false
  line_outside l =
      by_bool (is_line code m text p) (λ t. absurd (omega (arith, line_inside t))) (λ t. t)
