-- A text's tests in the order in which the reader meets them, and what a text that passes them holds: each frame has its digits, so each
-- number is read whole.
use Prim.Native.Nat.{ℕ, zero, suc, ◌+◌, ◌-◌, ◌*◌, ◌/◌, ◌%◌, ◌≤◌, ◌<◌}
use native.Mathlib.Nat.{mul-le-mul_left}
use native.Mathlib.Omega.{arith}
use mathlib.Core.Path.{◌≡◌, refl, sym, ◌∙◌, ap}
use mathlib.Core.List.{List}
use mathlib.Core.Bool.{Bool, true, false, not, ◌&&◌}
use lib.ListN.{length}
use lib.Dec.{ltb, eqb}
use borrow.Author.Tests.{eqb-true, eq-eqb, ne_eqb, not-false, ltb-true, ltb-false, le-ltb}
use Rattle.std.specs.List.{list_all, range_with_len}
use Rattle.std.specs.Option.{unwrap_or}
use Rattle.std.proofs.lemmas.List.Folds.{list_all_at}
use Rattle.std.proofs.lemmas.List.FromFn.{length-range_with_len, get_or-range_with_len}
use Rattle.mesh.specs.Search.{first, lowest, every}
use Rattle.mesh.proofs.Tests.{by_bool, clash, or_left, and_true, or_true, and_false_right, and_false_left}
use Rattle.mesh.proofs.Search.{first_low, first_bound, every_at, every_fails}
use Rattle.frames.specs.Digits.{digits_at, number_at}
use Rattle.frames.specs.Frames.{width, head_code, triangle_code, vertex_code}
use Rattle.frames.specs.Lines.{is_head, frame_place}
use Rattle.frames.proofs.DigitReadLaws.{digits_within, number_whole}
use Rattle.frames.proofs.LineLaws.{line_parts, line_number}
use Rattle.meshtext.specs.Reading.{is_frame, frame_count, triangle_count, placed, is_text, number_in}

-- the parts of a text
pub record Parts (w : ℕ) (text : List ℕ) : Type 0 where
  pub head : is_head w text ≡ true
  pub whole : length text ≡ frame_place w (frame_count w text)
  pub frames : every (placed w text (triangle_count w text)) (frame_count w text) ≡ true

module _ (w : ℕ) (text : List ℕ) where
  pub triangles_is : triangle_count w text ≡ first (λ i. not (is_frame w triangle_code text i)) (frame_count w text)
  unfolding triangle_count
  triangles_is = refl

  pub triangles_bound : triangle_count w text ≤ frame_count w text
  triangles_bound = rw triangles_is (first_bound (λ i. not (is_frame w triangle_code text i)) (frame_count w text))

  text_is : is_text w text ≡
      (is_head w text && (eqb (length text) (frame_place w (frame_count w text)) && every (placed w text (triangle_count w text)) (frame_count w text)))
  unfolding is_text
  text_is = refl

  pub text_of : Parts w text → is_text w text ≡ true
  text_of q = text_is ∙ rw (q.head, eq-eqb (length text) (frame_place w (frame_count w text)) q.whole, q.frames)

  module _ (e : is_text w text ≡ true) where
    pub parts_of : Parts w text
    parts_of =
        let a = and_true (is_head w text) _ (sym text_is ∙ e) in
        let b = and_true (eqb (length text) (frame_place w (frame_count w text))) _ a.1 in
        record { head = a.0; whole = eqb-true (length text) (frame_place w (frame_count w text)) b.0; frames = b.1 }

    -- the frames before the first that is no triangle frame, and those from there on
    pub triangle_at : (i : ℕ) → i < triangle_count w text → is_frame w triangle_code text i ≡ true
    triangle_at i l = not-false _ (first_low (λ i. not (is_frame w triangle_code text i)) (frame_count w text) i (omega (arith, triangles_is)))

    pub vertex_at : (i : ℕ) → triangle_count w text ≤ i → i < frame_count w text → is_frame w vertex_code text i ≡ true
    vertex_at i l g =
        or_true (ltb i (triangle_count w text)) (is_frame w vertex_code text i)
        (every_at (placed w text (triangle_count w text)) (frame_count w text) parts_of.frames i g)
        (λ u. absurd (omega (arith, ltb-true i (triangle_count w text) u))) (λ u. u)

    frame_digits : (i : ℕ) → i < frame_count w text → digits_at (3 * w) text (frame_place w i + 2) ≡ true
    frame_digits i l =
        or_true (ltb i (triangle_count w text)) (is_frame w vertex_code text i)
        (every_at (placed w text (triangle_count w text)) (frame_count w text) parts_of.frames i l)
        (λ u. (line_parts triangle_code (3 * w) text (frame_place w i) (triangle_at i (ltb-true i (triangle_count w text) u))).2)
        (λ u. (line_parts vertex_code (3 * w) text (frame_place w i) u).2)

    pub number_digits : (q : ℕ) → q < 3 * frame_count w text → digits_at w text (frame_place w (q / 3) + 2 + w * (q % 3)) ≡ true
    number_digits q l =
        digits_within (3 * w) text (frame_place w (q / 3) + 2) w (frame_place w (q / 3) + 2 + w * (q % 3)) (w * (q % 3)) (frame_digits (q / 3) (omega arith)) refl
        (three w (q % 3) (omega arith))
      where
        three : (w k : ℕ) → k < 3 → w * k + w ≤ 3 * w
        three w k l = omega (arith, mul-le-mul_left w (let g : k ≤ 2 = omega arith in g))

-- what the code reads
module _ (text : List ℕ) (e : is_text width text ≡ true) where
  pub number_read : (q : ℕ) → q < 3 * frame_count width text → number_at width text (frame_place width (q / 3) + 2 + width * (q % 3)) % 65536 ≡ number_in width text q
  unfolding number_in
  number_read q l =
      number_whole width text (frame_place width (q / 3) + 2 + width * (q % 3)) (omega arith) (number_digits width text e q l)

  pub n_read : number_at width text 2 % 65536 ≡ number_at width text 2
  n_read = line_number head_code width text 0 (parts_of width text e).head 2 0 width (omega arith) (omega arith) (omega arith)

-- the reader's tests
module _ (text : List ℕ) where
  pub text_headless : is_head width text ≡ false → is_text width text ≡ false
  text_headless h = text_is width text ∙ rw h

  pub text_ragged : (length text ≡ frame_place width (frame_count width text) → ⊥) → is_text width text ≡ false
  text_ragged h =
      text_is width text ∙
      and_false_right (is_head width text) _ (and_false_left (eqb (length text) (frame_place width (frame_count width text))) _
      (ne_eqb (length text) (frame_place width (frame_count width text)) h))

  -- t is the number of triangle frames that was counted
  module _ (t : ℕ) (counted : t ≡ first (λ i. not (is_frame width triangle_code text i)) (frame_count width text)) where
    pub counted_same : t ≡ triangle_count width text
    counted_same = counted ∙ sym (triangles_is width text)

    pub counted_bound : t ≤ frame_count width text
    counted_bound = omega (arith, counted_same, triangles_bound width text)

    pub text_mixed : every (placed width text t) (frame_count width text) ≡ false → is_text width text ≡ false
    text_mixed h =
        text_is width text ∙
        and_false_right (is_head width text) _ (and_false_right (eqb (length text) (frame_place width (frame_count width text))) _
        (ap (λ (t : ℕ). every (placed width text t) (frame_count width text)) (sym counted_same) ∙ h))

    pub text_right : is_head width text ≡ true → length text ≡ frame_place width (frame_count width text)
        → every (placed width text t) (frame_count width text) ≡ true → is_text width text ≡ true
    text_right a b d =
        text_of width text (record { head = a; whole = b; frames = ap (λ (t : ℕ). every (placed width text t) (frame_count width text)) (sym counted_same) ∙ d })

-- where none is found, all pass
pub lowest_or_all : (p : ℕ → Bool) (m : ℕ) → unwrap_or (lowest p m) m ≡ first p m
unfolding lowest
lowest_or_all p m =
    by_bool (ltb (first p m) m) (λ t. rw t refl) (λ t. rw t (let a = ltb-false (first p m) m t in let b = first_bound p m in omega arith))

-- the frames from t on, one after the other
all_row : (p : ℕ → Bool) (k m : ℕ) → ((j : ℕ) → k ≤ j → j < k + m → p j ≡ true) → list_all p (range_with_len k m) ≡ true
all_row p k zero h = refl
all_row p k (suc m) h = rw (h k (omega arith) (omega arith)) (all_row p (k + 1) m (λ j l u. h j (omega arith) (omega arith)))

module _ (text : List ℕ) (t count : ℕ) where
  behind : (j : ℕ) → t ≤ j → placed width text t j ≡ is_frame width vertex_code text j
  behind j l = rw (le-ltb j t l)

  pub placed_from : list_all (is_frame width vertex_code text) (range_with_len t (count - t)) ≡ every (placed width text t) count
  placed_from =
      by_bool (every (placed width text t) count)
      (λ e. all_row _ t (count - t) (λ j l u. sym (behind j l) ∙ every_at _ count e j (omega arith)) ∙ sym e)
      (λ e.
      let s = every_fails (placed width text t) count e in
      let k : ℕ = s.0 in
      let f : placed width text t k ≡ false = s.2 in
      let l : t ≤ k = by_bool (ltb k t) (λ u. clash (placed width text t k) (or_left _ _ u) f) (λ u. ltb-false k t u) in
      let g : k - t < count - t = omega (arith, s.1) in
      let z : t + (k - t) ≡ k = omega arith in
      list_all_at (is_frame width vertex_code text) (range_with_len t (count - t)) (k - t) 0 (omega (arith, length-range_with_len t (count - t)))
      (ap (is_frame width vertex_code text) (get_or-range_with_len t (count - t) (k - t) 0 g ∙ z) ∙ sym (behind k l) ∙ f) ∙ sym e)
