-- What an array's text means, torn or not (SPECIFICATION, section 11). Its frames have one length and its edges are known, so each
-- number stands at a place that the edge alone gives.
use Rattle.std.specs.Prelude.{ℕ, ◌+◌, ◌-◌, ◌*◌, ◌/◌, ◌%◌, List, Bool, true, cond, ◌&&◌, length, ltb, eqb}
use Rattle.mesh.specs.Search.{first_from, first, every, tabulate_from, tabulate}
use Rattle.mesh.specs.Limits.{unused_mark, out_of_range, references_length, service_length}
use Rattle.mesh.specs.Wood.{used}
use Rattle.frames.specs.Digits.{highest, number_at}
use Rattle.frames.specs.Frames.{width, edge_code, refusal_line}
use Rattle.frames.specs.Lines.{is_line, is_head, edge_place, edge_total}

-- the used indices ascending are 3, 6, 7, then 9 and all above: how many stand before j
unfoldable pub frame_number : ℕ → ℕ
frame_number j = cond (ltb j 9) (cond (eqb j 3) 0 (j - 5)) (j - 6)

-- the digits of an edge's frame: three numbers and the service digit
abbrev pub edge_digits : ℕ
edge_digits = 3 * width + 1

-- a line of an edge's code stands where the frame of edge j belongs
unfoldable pub is_edge_line : List ℕ → ℕ → Bool
unfolding frame_number is_line
is_edge_line text j = is_line edge_code edge_digits text (edge_place width (frame_number j))

-- the number that k digits of that frame write, with i digits before them
unfoldable pub number_in : List ℕ → ℕ → ℕ → ℕ → ℕ
unfolding frame_number number_at
number_in text j i k = number_at k text (edge_place width (frame_number j) + 2 + i)

-- a used index has its frame, with its own number in it
unfoldable pub is_edge_frame : List ℕ → ℕ → Bool
unfolding used is_edge_line number_in
is_edge_frame text j = cond (used j) (is_edge_line text j && eqb (number_in text j 0 width) j) true

-- each edge's frame, and nothing else behind the head
unfoldable pub is_array_text : ℕ → List ℕ → Bool
unfolding is_edge_frame first_from first every
is_array_text n text = eqb (length text) (edge_place width (edge_total n)) && every (is_edge_frame text) (3 * n)

-- digits F alone stand for the mark, any others for their number
unfoldable pub reference_meant : ℕ → ℕ
reference_meant x = cond (eqb x (highest width)) unused_mark x

-- place i of the references, and the service byte of edge j; unused edges hold the mark and 0
unfoldable pub reference_in : List ℕ → ℕ → ℕ
unfolding used reference_meant number_in
reference_in text i = cond (used (i / 2)) (reference_meant (number_in text (i / 2) (width + width * (i % 2)) width)) unused_mark

unfoldable pub service_in : List ℕ → ℕ → ℕ
unfolding used number_in
service_in text j = cond (used j) (number_in text j (3 * width) 1) 0

unfoldable pub references_in : ℕ → List ℕ → List ℕ
unfolding reference_in tabulate_from tabulate
references_in n text = tabulate (reference_in text) (references_length n)

unfoldable pub services_in : ℕ → List ℕ → List ℕ
unfolding service_in tabulate_from tabulate
services_in n text = tabulate (service_in text) (service_length n)

-- the n that a text's head tells
unfoldable pub vertices_in : List ℕ → ℕ
unfolding number_at
vertices_in text = number_at width text 2

-- the number that refuses a text, 0 for an array's: 20 without a head, 1 where its n is out of range, whatever follows, 20 where its
-- frames are not an array's
unfoldable pub text_refusal : List ℕ → ℕ
unfolding is_line is_array_text out_of_range vertices_in
text_refusal text =
    let n = vertices_in text in
    cond (is_head width text) (cond (out_of_range n) 1 (cond (is_array_text n text) 0 20)) 20

-- what f makes of the array of n vertices that a text tells of
abbrev pub told : (ℕ → List ℕ → List ℕ → List ℕ) → ℕ → List ℕ → List ℕ
told f n text = f n (references_in n text) (services_in n text)

-- what a program writes for a text: the line of its refusal, or what f makes of the array that it tells of
unfoldable pub lines_for : (ℕ → List ℕ → List ℕ → List ℕ) → List ℕ → List ℕ
unfolding text_refusal vertices_in references_in services_in refusal_line
lines_for f text =
    let number : ℕ = text_refusal text in
    cond (eqb number 0) (told f (vertices_in text) text) (refusal_line number)
