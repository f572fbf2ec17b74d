-- A piece that stands at a place of a text, byte for byte: what is read there is what is read in the piece. Pieces of one length,
-- one after the other, stand at multiples of it.
use Prim.Native.Nat.{ℕ, zero, suc, ◌+◌, ◌*◌, ◌≤◌, ◌<◌}
use native.Mathlib.Nat.{zero-add, add_assoc, mul-suc, mul-zero, mul-le-mul_left}
use native.Mathlib.Numerals.{add-one, add-one-le}
use native.Mathlib.Omega.{arith}
use mathlib.Core.Path.{◌≡◌, sym, ◌∙◌, ap, ap₂}
use mathlib.Core.List.{List, ◌++◌}
use mathlib.Core.Bool.{true}
use lib.ListN.{length, length-append, get_or-append}
use lib.Seq.{get_or-append-add}
use lib.Dec.{eqb}
use borrow.Author.Tests.{eqb-true, eqb-false}
use Rattle.mesh.specs.Search.{gather}
use Rattle.mesh.proofs.Tests.{by_bool}
use Rattle.mesh.proofs.Lists.{gather_none, gather_more}
use Rattle.frames.specs.Digits.{byte_at, is_digit, digit_value, digits_at, number_at}
use Rattle.frames.proofs.DigitReadLaws.{digits_each, digits_of, number_none, number_more}

-- the piece stands at place p of the text
abbrev pub Stands : List ℕ → ℕ → List ℕ → Type 0
Stands text p piece = (i : ℕ) → i < length piece → byte_at text (p + i) ≡ byte_at piece i

pub stands_first : (piece after : List ℕ) → Stands (piece ++ after) 0 piece
stands_first piece after i l = ap (byte_at (piece ++ after)) (zero-add i) ∙ get_or-append piece after 0 i l

pub stands_second : (before piece : List ℕ) (p : ℕ) → length before ≡ p → Stands (before ++ piece) p piece
stands_second before piece p e i l =
    ap (λ (k : ℕ). byte_at (before ++ piece) (k + i)) (sym e) ∙ get_or-append-add before piece i 0

-- a piece of a piece
pub stands_within : (text piece part : List ℕ) (p q : ℕ) → Stands text p piece → Stands piece q part → q + length part ≤ length piece → Stands text (p + q) part
stands_within text piece part p q s t l i g =
    ap (byte_at text) (add_assoc p q i) ∙ s (q + i) (omega arith) ∙ t i g

-- pieces of length k
module _ (f : ℕ → List ℕ) (k : ℕ) (each : (i : ℕ) → length (f i) ≡ k) where
  pub length_pieces : (m : ℕ) → length (gather f m) ≡ k * m
  length_pieces zero = ap length (gather_none f) ∙ sym (mul-zero k)
  length_pieces (suc m) =
      ap (λ (j : ℕ). length (gather f j)) (sym (add-one m)) ∙ ap length (gather_more f m) ∙ length-append (gather f m) (f m) ∙
      ap₂ (λ (a b : ℕ). a + b) (length_pieces m) (each m) ∙ sym (mul-suc k m)

  pub pieces_stand : (m i : ℕ) → i < m → Stands (gather f m) (k * i) (f i)
  pieces_stand zero i l j g = absurd (omega arith)
  pieces_stand (suc m) i l j g =
      ap (λ (n : ℕ). byte_at (gather f n) (k * i + j)) (sym (add-one m)) ∙ ap (λ (t : List ℕ). byte_at t (k * i + j)) (gather_more f m) ∙
      by_bool (eqb i m)
      (λ u.
      let e : i ≡ m = eqb-true i m u in
      ap (λ (n : ℕ). byte_at (gather f m ++ f m) (k * n + j)) e ∙ stands_second (gather f m) (f m) (k * m) (length_pieces m) j (rw e at g) ∙
      ap (λ (n : ℕ). byte_at (f n) j) (sym e))
      (λ u.
      let n : i ≡ m → ⊥ = eqb-false i m u in
      let h : i < m = omega arith in
      get_or-append (gather f m) (f m) 0 (k * i + j) (within i m j h g) ∙ pieces_stand m i h j g)
    where
      within : (i m j : ℕ) → i < m → j < length (f i) → k * i + j < length (gather f m)
      within i m j h g =
          omega (arith, length_pieces m, each i, mul-suc k i, mul-le-mul_left k (add-one-le h))

-- what is read
pub digits_stand : (text piece : List ℕ) (p q m : ℕ) → Stands text p piece → q + m ≤ length piece → digits_at m piece q ≡ true → digits_at m text (p + q) ≡ true
digits_stand text piece p q m s l e =
    digits_of m text (p + q) (λ i g. ap (λ (k : ℕ). is_digit (byte_at text k)) (add_assoc p q i) ∙ ap is_digit (s (q + i) (omega arith)) ∙ digits_each m piece q i e g)

pub number_stands : (text piece : List ℕ) (p q m : ℕ) → Stands text p piece → q + m ≤ length piece → number_at m text (p + q) ≡ number_at m piece q
number_stands text piece p q zero s l = number_none text (p + q) ∙ sym (number_none piece q)
number_stands text piece p q (suc m) s l =
    number_more m text (p + q) ∙
    ap₂ (λ (a b : ℕ). 16 * a + digit_value b) (number_stands text piece p q m s (omega arith))
    (ap (byte_at text) (add_assoc p q m) ∙ s (q + m) (omega arith)) ∙
    sym (number_more m piece q)
