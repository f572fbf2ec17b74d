-- What a text means: its head, triangle frames, vertex frames, and nothing else.
use Rattle.std.specs.Prelude.{ℕ, ◌+◌, ◌-◌, ◌*◌, ◌/◌, ◌%◌, List, Bool, cond, not, ◌&&◌, ◌||◌, length, ltb, eqb}
use Rattle.mesh.specs.Search.{first_from, first, every, tabulate_from, tabulate}
use Rattle.frames.specs.Digits.{number_at}
use Rattle.frames.specs.Frames.{width, triangle_code, vertex_code}
use Rattle.frames.specs.Lines.{is_line, is_head, head_length, frame_length, frame_place}

abbrev pub is_frame : ℕ → ℕ → List ℕ → ℕ → Bool
is_frame w code text i = is_line code (3 * w) text (frame_place w i)

-- how many frames follow the head, and how many of them are triangle frames before the first that is none
abbrev pub frame_count : ℕ → List ℕ → ℕ
frame_count w text = (length text - head_length w) / frame_length w

unfoldable pub triangle_count : ℕ → List ℕ → ℕ
unfolding is_line first_from first
triangle_count w text = first (λ i. not (is_frame w triangle_code text i)) (frame_count w text)

-- frame i is one of the first t, or a vertex frame
abbrev pub placed : ℕ → List ℕ → ℕ → ℕ → Bool
placed w text t i = ltb i t || is_frame w vertex_code text i

unfoldable pub is_text : ℕ → List ℕ → Bool
unfolding is_line triangle_count first_from first every
is_text w text =
    is_head w text && (eqb (length text) (frame_place w (frame_count w text)) &&
    every (placed w text (triangle_count w text)) (frame_count w text))

-- number q of the frames, three to a frame
unfoldable pub number_in : ℕ → List ℕ → ℕ → ℕ
unfolding number_at
number_in w text q = number_at w text (frame_place w (q / 3) + 2 + w * (q % 3))

-- so many of them, from number p on
abbrev pub numbers_from : ℕ → List ℕ → ℕ → ℕ → List ℕ
numbers_from w text p m = tabulate (λ q. number_in w text (p + q)) m

unfoldable pub triangles_in : ℕ → List ℕ → List ℕ
unfolding number_in triangle_count tabulate_from tabulate
triangles_in w text = numbers_from w text 0 (3 * triangle_count w text)

unfoldable pub targets_in : ℕ → List ℕ → List ℕ
unfolding number_in triangle_count tabulate_from tabulate
targets_in w text = let t = triangle_count w text in numbers_from w text (3 * t) (3 * (frame_count w text - t))

-- nothing, or n, the triangles and the targets of the inner vertices
pub data Meaning : Type 0 where
  nothing : Meaning
  mesh : ℕ → List ℕ → List ℕ → Meaning

unfoldable pub read_by : ℕ → List ℕ → Meaning
unfolding is_text triangles_in targets_in
read_by w text = cond (is_text w text) (mesh (number_at w text 2) (triangles_in w text) (targets_in w text)) nothing

unfoldable pub read_text : List ℕ → Meaning
unfolding read_by
read_text text = read_by width text
