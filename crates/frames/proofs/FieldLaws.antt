-- Lines of fields: the digits before field i, field i behind them, and a line from its fields.
use Prim.Native.Nat.{ℕ, zero, suc, ◌+◌, ◌≤◌, ◌<◌}
use native.Mathlib.Numerals.{add-one}
use native.Mathlib.Omega.{arith}
use mathlib.Core.Path.{◌≡◌, refl, sym, ◌∙◌, ap}
use mathlib.Core.List.{List, [], ◌∷◌, ◌++◌, append-nil, append_assoc}
use lib.ListN.{length, get_or, set, take, length-append}
use lib.Seq.{sets}
use Rattle.std.specs.Prelude.{sum_by}
use Rattle.std.proofs.lemmas.List.Sums.{sum_by-cons}
use Rattle.std.specs.declared.result.Result.TheVariants.{Ok}
use Rattle.frames.specs.Digits.{digits}
use Rattle.frames.specs.Fields.{spelled}
use Rattle.frames.specs.Frames.{line_feed, edge_code, line, numbers_frame, triple_frame, edge_frame}
use Rattle.frames.specs.Put.{Wrote, Stored}
use Rattle.frames.proofs.DigitLaws.{length_digits}
use Rattle.frames.proofs.StoreLaws.{stored_byte, stored_as, stored_wider, stored_more}
use Rattle.frames.proofs.PutLaws.{wrote_frame}
use Rattle.frames.proofs.FrameLaws.{length_line, stored_digits}

pub length_none : length (spelled []) ≡ 0
unfolding spelled
length_none = refl

pub length_field : (f : ℕ × ℕ) (fs : List (ℕ × ℕ)) → length (spelled (f ∷ fs)) ≡ f.0 + length (spelled fs)
unfolding spelled
length_field f fs = length-append (digits f.0 f.1) (spelled fs) ∙ ap (λ (n : ℕ). n + length (spelled fs)) (length_digits f.0 f.1)

pub length_spelled : (fs : List (ℕ × ℕ)) → length (spelled fs) ≡ sum_by (λ f. f.0) fs
length_spelled [] = length_none
length_spelled (f ∷ fs) = length_field f fs ∙ ap (λ (n : ℕ). f.0 + n) (length_spelled fs) ∙ sym (sum_by-cons (λ f. f.0) f fs)

-- the frames as their fields
pub spelled_one : (k x : ℕ) → spelled ((k, x) ∷ []) ≡ digits k x
unfolding spelled
spelled_one k x = append-nil (digits k x)

pub spelled_triple : (w code a b c : ℕ) → line code (spelled ((w, a) ∷ (w, b) ∷ (w, c) ∷ [])) ≡ triple_frame w code a b c
unfolding spelled triple_frame numbers_frame
spelled_triple w code a b c = refl

pub spelled_edge : (w j l r s : ℕ) → line edge_code (spelled ((w, j) ∷ (w, l) ∷ (w, r) ∷ (1, s) ∷ [])) ≡ edge_frame w j l r s
unfolding spelled edge_frame numbers_frame
spelled_edge w j l r s = ap (λ (t : List ℕ). line edge_code (digits w j ++ (digits w l ++ (digits w r ++ t)))) (append-nil (digits 1 s))

module _ (fs : List (ℕ × ℕ)) (i : ℕ) where
  abbrev pub field_at : ℕ × ℕ
  field_at = get_or fs i (0, 0)

  abbrev pub before : List ℕ
  before = spelled (take i fs)

pub spelled_more : (fs : List (ℕ × ℕ)) (i : ℕ) → i < length fs → before fs (suc i) ≡ before fs i ++ digits (field_at fs i).0 (field_at fs i).1
unfolding spelled
spelled_more [] i l = absurd (omega arith)
spelled_more (f ∷ fs) zero l = append-nil (digits f.0 f.1)
spelled_more (f ∷ fs) (suc i) l =
    ap (λ (l : List ℕ). digits f.0 f.1 ++ l) (spelled_more fs i (omega arith)) ∙
    sym (append_assoc (digits f.0 f.1) (before fs i) (digits (field_at fs i).0 (field_at fs i).1))

pub length_more : (fs : List (ℕ × ℕ)) (i : ℕ) → i < length fs → length (before fs (i + 1)) ≡ length (before fs i) + (field_at fs i).0
length_more fs i l =
    let f = field_at fs i in
    rw add-one
    (ap length (spelled_more fs i l) ∙ length-append (before fs i) (digits f.0 f.1) ∙ ap (λ (n : ℕ). length (before fs i) + n) (length_digits f.0 f.1))

pub spelled_fit : (fs : List (ℕ × ℕ)) (i : ℕ) → i < length fs → length (before fs i) + (field_at fs i).0 ≤ length (spelled fs)
spelled_fit [] i l = absurd (omega arith)
spelled_fit (f ∷ fs) zero l = omega (arith, length_none, length_field f fs)
spelled_fit (f ∷ fs) (suc i) l = omega (arith, spelled_fit fs i (omega arith), length_field f fs, length_field f (take i fs))

-- the code before all
pub line_starts : (code : ℕ) (out p : List ℕ) → p ≡ sets out 0 (digits 2 code) → Stored (2 + length (spelled [])) (digits 2 code ++ spelled []) 0 out 2 p
unfolding spelled
line_starts code out p e = stored_as 2 (digits 2 code) _ 0 2 out p (sym (append-nil (digits 2 code))) (stored_digits 2 code 0 out p e)

module _ (code : ℕ) (out p : List ℕ) (at : ℕ) where
  -- one field behind those that are stored
  pub field_stored : (fs : List (ℕ × ℕ)) (i : ℕ) (q : List ℕ) → i < length fs → Stored (2 + length (before fs i)) (digits 2 code ++ before fs i) 0 out at p
      → q ≡ sets p at (digits (field_at fs i).0 (field_at fs i).1)
      → Stored (2 + length (before fs (i + 1))) (digits 2 code ++ before fs (i + 1)) 0 out (at + (field_at fs i).0) q
  field_stored fs i q l s e =
      let f = field_at fs i in
      stored_wider (2 + length (before fs i) + f.0) _ _ 0 (at + f.0) out q (omega (arith, length_more fs i l))
      (stored_as _ ((digits 2 code ++ before fs i) ++ digits f.0 f.1) _ 0 (at + f.0) out q
      (append_assoc (digits 2 code) (before fs i) (digits f.0 f.1) ∙ ap (λ (t : List ℕ). digits 2 code ++ t) (sym (rw add-one (spelled_more fs i l))))
      (stored_more (2 + length (before fs i)) f.0 _ _ 0 at (at + f.0) out p q s (stored_digits f.0 f.1 at p q e)))

  -- the line feed behind all
  pub line_ends : (body : List ℕ) (room : ℕ) → room ≡ 3 + length body → room ≤ length out → Stored (2 + length body) (digits 2 code ++ body) 0 out at p
      → Wrote (line code body) out (Ok room) (set p at line_feed)
  unfolding line
  line_ends body room e l s =
      wrote_frame (line code body) out room _ (e ∙ sym (length_line code body)) l
      (stored_as _ _ (line code body) 0 (at + 1) out _ (append_assoc (digits 2 code) body (line_feed ∷ []))
      (stored_more (2 + length body) 1 _ (line_feed ∷ []) 0 at (at + 1) out p _ s (stored_byte line_feed at p))).stored
