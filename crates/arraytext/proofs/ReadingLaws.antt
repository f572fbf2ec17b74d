-- An array's text read: where an edge's frame stands, what is read in it, and the reader's tests in the order in which it meets them.
use Prim.Native.Nat.{ℕ, ◌+◌, ◌*◌, ◌%◌, ◌^◌, ◌≤◌, ◌<◌}
use native.Mathlib.Omega.{arith}
use mathlib.Core.Path.{◌≡◌, refl, ◌∙◌, ap}
use mathlib.Core.List.{List}
use mathlib.Core.Bool.{true, cond}
use lib.ListN.{length}
use lib.Dec.{ltb, eqb}
use Rattle.mesh.specs.Limits.{out_of_range}
use Rattle.mesh.specs.Wood.{used}
use Rattle.mesh.proofs.Tests.{by_bool, and_true}
use Rattle.mesh.proofs.Search.{every_at}
use Rattle.tables.specs.declared.refusal.Refusal.{Refusal}
use Rattle.tables.specs.Refusal.{number}
use Rattle.tables.proofs.RefusalLaws.{number_above}
use Rattle.frames.specs.Digits.{number_at}
use Rattle.frames.specs.Frames.{width, edge_code, head_code}
use Rattle.frames.specs.Lines.{is_head, edge_place, edge_total}
use Rattle.frames.proofs.DigitReadLaws.{digits_within, number_below}
use Rattle.frames.proofs.LineLaws.{line_parts, line_number}
use Rattle.arraytext.specs.ArrayText.{frame_number, edge_digits, is_edge_line, number_in, is_edge_frame, is_array_text}

pub frame_within : (j : ℕ) → frame_number j ≤ j
unfolding frame_number
frame_within j =
    by_bool (ltb j 9) (λ t. by_bool (eqb j 3) (λ u. rw (t, u) (omega arith)) (λ u. rw (t, u) (omega arith))) (λ t. rw t (omega arith))

-- a number in the frame of edge j is read whole
module _ (text : List ℕ) (j : ℕ) where
  pub number_whole_in : is_edge_line text j ≡ true → (q i k : ℕ) → q ≡ edge_place width (frame_number j) + 2 + i → i + k ≤ edge_digits → k ≤ width
      → number_at k text q % 65536 ≡ number_in text j i k
  unfolding is_edge_line number_in
  number_whole_in h q i k e l g =
      line_number edge_code edge_digits text (edge_place width (frame_number j)) h q i k e l (omega arith) ∙ ap (number_at k text) e

  number_small_in : is_edge_line text j ≡ true → (i k : ℕ) → i + k ≤ edge_digits → number_in text j i k < 16 ^ k
  unfolding is_edge_line number_in
  number_small_in h i k l =
      let p : ℕ = edge_place width (frame_number j) in
      number_below k text (p + 2 + i) (digits_within edge_digits text (p + 2) k (p + 2 + i) i (line_parts edge_code edge_digits text p h).2 refl l)

  pub digit_small_in : is_edge_line text j ≡ true → (i : ℕ) → i + 1 ≤ edge_digits → number_in text j i 1 < 256
  digit_small_in h i l = omega (arith, number_small_in h i 1 l)

  frame_line : is_edge_frame text j ≡ true → used j ≡ true → is_edge_line text j ≡ true
  unfolding is_edge_frame
  frame_line e u = (and_true (is_edge_line text j) _ (rw u at e)).0

  -- a used index of an array's text has its frame
  pub array_line : (n : ℕ) → is_array_text n text ≡ true → used j ≡ true → j < 3 * n → is_edge_line text j ≡ true
  unfolding is_array_text
  array_line n e u l =
      frame_line (every_at (is_edge_frame text) (3 * n) (and_true (eqb (length text) (edge_place width (edge_total n))) _ e).1 j l) u

pub head_number : (text : List ℕ) → is_head width text ≡ true → number_at width text 2 % 65536 ≡ number_at width text 2
head_number text h = line_number head_code width text 0 h 2 0 width (omega arith) (omega arith) (omega arith)

-- a number that only the range can give says that it is left
pub range_refused : (r : Refusal) (n : ℕ) → number r ≡ cond (out_of_range n) 1 0 → out_of_range n ≡ true
range_refused r n e = by_bool (out_of_range n) (λ t. t) (λ t. absurd (omega (arith, number_above r, rw t at e)))
