-- A line at a place of a text. The frames after a head have one length, so frame i of a mesh's or of an array's text stands at a place
-- that i alone gives; by it the longest texts are as long as they are.
use Rattle.std.specs.Prelude.{ℕ, ◌+◌, ◌-◌, ◌*◌, ◌/◌, ◌%◌, List, Bool, ◌&&◌, eqb}
use Rattle.mesh.specs.Limits.{most_vertices}
use Rattle.frames.specs.Digits.{digit_of, byte_at, digits_at}
use Rattle.frames.specs.Frames.{width, line_feed, head_code}

-- a line of that code whose body has m digits stands at place p
unfoldable pub is_line : ℕ → ℕ → List ℕ → ℕ → Bool
unfolding digits_at
is_line code m text p =
    eqb (byte_at text p) (digit_of (code / 16)) && (eqb (byte_at text (p + 1)) (digit_of (code % 16)) &&
    (digits_at m text (p + 2) && eqb (byte_at text (p + 2 + m)) line_feed))

abbrev pub is_head : ℕ → List ℕ → Bool
is_head w text = is_line head_code w text 0

-- the bytes of a head, of a triangle or vertex frame, and of an edge's frame
abbrev pub head_length : ℕ → ℕ
head_length w = 3 + w

abbrev pub frame_length : ℕ → ℕ
frame_length w = 3 + 3 * w

abbrev pub edge_length : ℕ → ℕ
edge_length w = 4 + 3 * w

-- where frame i of a mesh's text begins, and of an array's
abbrev pub frame_place : ℕ → ℕ → ℕ
frame_place w i = head_length w + frame_length w * i

abbrev pub edge_place : ℕ → ℕ → ℕ
edge_place w i = head_length w + edge_length w * i

-- the frames of a mesh of n vertices, 2n - 4 triangles and n - 3 inner vertices, and of its array, 3n - 6 edges
abbrev pub frame_total : ℕ → ℕ
frame_total n = 2 * n - 4 + (n - 3)

abbrev pub edge_total : ℕ → ℕ
edge_total n = 3 * n - 6

-- the bytes of the longest text of a mesh, and of an array
abbrev pub text_limit : ℕ
text_limit = frame_place width (frame_total most_vertices)

abbrev pub output_limit : ℕ
output_limit = edge_place width (edge_total most_vertices)
