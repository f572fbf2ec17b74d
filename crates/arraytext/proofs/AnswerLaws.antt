-- The lines of answers: the fields that spell a line's answers, a line from its fields, and one line stored behind the others.
use Prim.Native.Nat.{ℕ, zero, suc, ◌+◌, ◌*◌, ◌-◌, ◌%◌, ◌^◌, ◌≤◌, ◌<◌}
use native.Mathlib.Numerals.{add-one}
use native.Mathlib.Omega.{arith}
use mathlib.Core.Path.{◌≡◌, refl, sym, ◌∙◌, ap, ap₂, subst}
use mathlib.Core.List.{List, [], ◌∷◌, ◌++◌, append-nil, append_assoc}
use lib.ListN.{length, get_or, set, take, drop, length-append}
use borrow.Rule.Slice.PartMut.{put_mid}
use Rattle.std.specs.Prelude.{MatchResult}
use Rattle.std.specs.declared.result.Result.{Result}
use Rattle.std.specs.declared.result.Result.TheVariants.{Ok, Err}
use Rattle.mesh.specs.Search.{gather}
use Rattle.tables.specs.declared.refusal.Refusal.{Refusal}
use Rattle.tables.specs.Refusal.{number}
use Rattle.questions.specs.declared.answer.Reached.{Reached}
use Rattle.questions.specs.Answers.{listed, target_listed}
use Rattle.frames.specs.Digits.{digits}
use Rattle.frames.specs.Frames.{width, line_feed, line}
use Rattle.frames.specs.Put.{Wrote, Stored}
use Rattle.frames.proofs.DigitLaws.{length_digits}
use Rattle.frames.proofs.PutLaws.{wrote_over, same_count}
use Rattle.frames.proofs.StoreLaws.{stored_byte, stored_as, stored_wider, stored_more, lines_more}
use Rattle.frames.proofs.PartLaws.{front_digits, part_digits, part_placed, length_rest}
use Rattle.arraytext.specs.declared.field.Field.{Field}
use Rattle.arraytext.specs.AnswerLines.{fields, answer_line, line_most, value_length, spelled, Spells, SpellsAll}
use Rattle.arraytext.proofs.FieldLaws.{number_behind}

-- a field as it was converted spells the answer's list
pub spells_listed : (r : Result ℕ Refusal) (f : Field) (answer : List ℕ) → listed r ≡ answer
    → MatchResult r (λ v. Spells value_length f (0 ∷ v ∷ [])) (λ e. Spells value_length f (number e ∷ [])) → Spells value_length f answer
spells_listed (Ok v) f answer e s = subst (Spells value_length f) e s
spells_listed (Err k) f answer e s = subst (Spells value_length f) e s

pub spells_target : (r : Result Reached Refusal) (f : Field) (answer : List ℕ) → target_listed r ≡ answer
    → MatchResult r (λ v. Spells (value_length + width) f (0 ∷ v.vertex ∷ v.reads ∷ [])) (λ e. Spells value_length f (number e ∷ [])) → Spells (value_length + width) f answer
spells_target (Ok v) f answer e s = subst (Spells (value_length + width) f) e s
spells_target (Err k) f answer e s =
    subst (Spells (value_length + width) f) e (record { few = omega (arith, s.few); spelled = s.spelled })

pub spells_none : SpellsAll 0 [] []
unfolding fields spelled
spells_none = record { few = omega arith; same = refl }

pub spells_more : {m k : ℕ} {f : Field} {fs : List Field} {answer : List ℕ} {rest : List (List ℕ)} → Spells m f answer → SpellsAll k fs rest
    → SpellsAll (m + k) (f ∷ fs) (answer ∷ rest)
unfolding fields spelled
spells_more {m} {k} {f} {fs} {answer} {rest} s t = record {
  few = omega (arith, s.few, t.few, length-append (digits f.count f.value) (spelled fs), length_digits f.count f.value);
  same = ap₂ (λ (a b : List ℕ). a ++ b) s.spelled t.same;
}

-- the fields before field i of a line, and field i behind them
abbrev pub field_at : List Field → ℕ → Field
field_at fs i = get_or fs i (record { count = 0; value = 0 })

pub spelled_more : (fs : List Field) (i : ℕ) → i < length fs
    → spelled (take (suc i) fs) ≡ spelled (take i fs) ++ digits (field_at fs i).count (field_at fs i).value
unfolding spelled
spelled_more [] i l = absurd (omega arith)
spelled_more (f ∷ fs) zero l = append-nil (digits f.count f.value)
spelled_more (f ∷ fs) (suc i) l =
    ap (λ (l : List ℕ). digits f.count f.value ++ l) (spelled_more fs i (omega arith)) ∙
    sym (append_assoc (digits f.count f.value) (spelled (take i fs)) (digits (field_at fs i).count (field_at fs i).value))

pub spelled_fit : (fs : List Field) (i : ℕ) → i < length fs → length (spelled (take i fs)) + (field_at fs i).count ≤ length (spelled fs)
unfolding spelled
spelled_fit [] i l = absurd (omega arith)
spelled_fit (f ∷ fs) zero l = omega (arith, length-append (digits f.count f.value) (spelled fs), length_digits f.count f.value)
spelled_fit (f ∷ fs) (suc i) l =
    omega (
      arith,
      spelled_fit fs i (omega arith),
      length-append (digits f.count f.value) (spelled fs),
      length-append (digits f.count f.value) (spelled (take i fs)),
    )

-- digits with room are never refused
pub digits_done : (k x : ℕ) (part : List ℕ) (r : Result ℕ Refusal) (part' : List ℕ) → k ≤ length part → Wrote (digits k x) part r part' → r ≡ Ok k
digits_done k x part r part' l w =
    let e = length_digits k x in
    (wrote_over (length (digits k x)) (digits k x) part r part' w (omega arith)).0 ∙ ap Ok e

pub digits_count : (k x : ℕ) (part : List ℕ) (r : Result ℕ Refusal) (part' : List ℕ) → k ≤ length part → Wrote (digits k x) part r part'
    → (j : ℕ) → r ≡ Ok j → j ≡ k
digits_count k x part r part' l w j d = same_count k j r (digits_done k x part r part' l w) d

-- a line: its code with what it is about, its fields, the line feed
module _ (code x : ℕ) where
  abbrev pub line_front : List ℕ → List ℕ
  line_front answers = digits 2 code ++ (digits width x ++ answers)

  pub line_starts : (part : List ℕ) (r : Result ℕ Refusal) (part' : List ℕ) (at : ℕ) → 2 + width ≤ length part
      → Wrote (digits (2 + width) (code * 16 ^ width + x % 16 ^ width)) part r part' → r ≡ Ok at
      → Stored (2 + width + length (spelled [])) (line_front (spelled [])) 0 part at part'
  unfolding spelled
  line_starts part r part' at l w e =
      let k : at ≡ 2 + width = digits_count (2 + width) _ part r part' l w at e in
      rw k
      (stored_as (2 + width) _ (line_front []) 0 (2 + width) part part' (number_behind 2 code x ∙ ap (λ (l : List ℕ). digits 2 code ++ l) (sym (append-nil (digits width x))))
      (front_digits (2 + width) _ part r part' l w))

  pub line_goes_on : (fs : List Field) (i at : ℕ) (out p : List ℕ) (r : Result ℕ Refusal) (ys : List ℕ) (k : ℕ) →
      let f = field_at fs i in
      i < length fs → at + f.count ≤ length p → Stored (2 + width + length (spelled (take i fs))) (line_front (spelled (take i fs))) 0 out at p
      → Wrote (digits f.count f.value) (take (length p - at) (drop at p)) r ys → r ≡ Ok k
      → Stored (2 + width + length (spelled (take (i + 1) fs))) (line_front (spelled (take (i + 1) fs))) 0 out (at + k) (put_mid at (length p - at) p ys)
  line_goes_on fs i at out p r ys k l room s w d =
      let f = field_at fs i in
      let c : k ≡ f.count = digits_count f.count f.value _ r ys (omega (arith, length_rest at p)) w k d in
      let e = spelled_more fs i l in
      let n : length (spelled (take (suc i) fs)) ≡ length (spelled (take i fs)) + f.count = ap length e ∙ length-append (spelled (take i fs)) (digits f.count f.value) ∙ ap (λ (n : ℕ). length (spelled (take i fs)) + n) (length_digits f.count f.value) in
      rw (c, add-one)
      (stored_wider (2 + width + length (spelled (take i fs)) + f.count) _ _ 0 (at + f.count) out _ (omega (arith, n))
      (stored_as _ (line_front (spelled (take i fs)) ++ digits f.count f.value) _ 0 (at + f.count) out _ (rw e (simp append_assoc))
      (stored_more (2 + width + length (spelled (take i fs))) f.count _ _ 0 at (at + f.count) out p _ s (part_digits at f.count f.value p r ys room w))))

  pub line_ends : (m at : ℕ) (answers out p : List ℕ) → Stored (2 + width + m) (line_front answers) 0 out at p
      → Stored (line_most m) (line code (digits width x ++ answers)) 0 out (at + 1) (set p at line_feed)
  unfolding line
  line_ends m at answers out p s =
      stored_wider (2 + width + m + 1) (line_most m) _ 0 (at + 1) out _ (omega arith)
      (stored_as _ _ _ 0 (at + 1) out _ (append_assoc (digits 2 code) (digits width x ++ answers) (line_feed ∷ []))
      (stored_more (2 + width + m) 1 (line_front answers) (line_feed ∷ []) 0 at (at + 1) out p _ s (stored_byte line_feed at p)))

-- lines of so many bytes at most, one behind the other
module _ (most code : ℕ) (answers : ℕ → List (List ℕ)) (start : ℕ) (out : List ℕ) (j at : ℕ) (p : List ℕ)
    (s : Stored (j * line_most most) (gather (answer_line code answers) j) start out at p) where
  pub line_behind : (fs : List Field) (k : ℕ) (ys : List ℕ) → SpellsAll most fs (answers j) → at + line_most most ≤ length p
      → Stored (line_most (length (spelled fs))) (line code (digits width j ++ spelled fs)) 0 (take (length p - at) (drop at p)) k ys
      → Stored ((j + 1) * line_most most) (gather (answer_line code answers) (j + 1)) start out (at + k) (put_mid at (length p - at) p ys)
  unfolding answer_line
  line_behind fs k ys q room t =
      let most' : ℕ = line_most (length (spelled fs)) in
      lines_more (line_most most) (answer_line code answers) start out j at (at + k) p _ s
      (stored_as (line_most most) _ _ at (at + k) p _ (ap (λ (l : List ℕ). line code (digits width j ++ l)) q.same)
      (stored_wider most' (line_most most) _ at (at + k) p _ (omega (arith, q.few)) (part_placed most' at k _ p ys (omega (arith, q.few)) t)))
