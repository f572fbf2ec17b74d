-- Frames, each a line: a code of two digits, the body, a line feed. Then the text of a mesh and the text of an array (SPECIFICATION, section 10).
use Rattle.std.specs.Prelude.{ℕ, ◌+◌, ◌*◌, ◌/◌, List, [], ◌∷◌, ◌++◌, cond, length, drop}
use Rattle.mesh.specs.Search.{gather_from, gather}
use Rattle.mesh.specs.Limits.{at}
use Rattle.mesh.specs.Wood.{used}
use Rattle.mesh.specs.Array.{left, right, front_place}
use Rattle.frames.specs.Digits.{digits}

-- the digits of each number
abbrev pub width : ℕ
width = 3

abbrev pub line_feed : ℕ
line_feed = 10

-- the frames' codes
abbrev pub head_code : ℕ
head_code = 0

abbrev pub triangle_code : ℕ
triangle_code = 1

abbrev pub vertex_code : ℕ
vertex_code = 2

abbrev pub edge_code : ℕ
edge_code = 3

abbrev pub refusal_code : ℕ
refusal_code = 15

unfoldable pub line : ℕ → List ℕ → List ℕ
unfolding digits
line code body = digits 2 code ++ (body ++ line_feed ∷ [])

-- the head of a text: n
unfoldable pub head_frame : ℕ → ℕ → List ℕ
unfolding line
head_frame w n = line head_code (digits w n)

-- the line of a refusal: its number in two digits
unfoldable pub refusal_line : ℕ → List ℕ
unfolding line
refusal_line number = line refusal_code (digits 2 number)

-- three numbers of w digits, and k digits more
abbrev pub numbers_body : ℕ → ℕ → ℕ → ℕ → ℕ → ℕ → List ℕ
numbers_body w a b c k x = digits w a ++ (digits w b ++ (digits w c ++ digits k x))

unfoldable pub numbers_frame : ℕ → ℕ → ℕ → ℕ → ℕ → ℕ → ℕ → List ℕ
unfolding line
numbers_frame w code a b c k x = line code (numbers_body w a b c k x)

-- a triangle with its corners, or an inner vertex with its targets
unfoldable pub triple_frame : ℕ → ℕ → ℕ → ℕ → ℕ → List ℕ
unfolding numbers_frame
triple_frame w code a b c = numbers_frame w code a b c 0 0

-- an edge with its LeftFront, its RightFront and its service byte in one digit
unfoldable pub edge_frame : ℕ → ℕ → ℕ → ℕ → ℕ → List ℕ
unfolding numbers_frame
edge_frame w j l r s = numbers_frame w edge_code j l r 1 s

-- frame i of a table of triples, and all of them one after the other
abbrev pub frame_of : ℕ → ℕ → List ℕ → ℕ → List ℕ
frame_of w code xs i = triple_frame w code (at xs (3 * i)) (at xs (3 * i + 1)) (at xs (3 * i + 2))

unfoldable pub table_frames : ℕ → ℕ → List ℕ → List ℕ
unfolding triple_frame gather_from gather
table_frames w code xs = gather (frame_of w code xs) (length xs / 3)

-- the head, the triangle frames, then a frame for each inner vertex ascending: targets are those of the inner vertices
unfoldable pub house_text : ℕ → ℕ → List ℕ → List ℕ → List ℕ
unfolding head_frame table_frames
house_text w n ts targets = head_frame w n ++ (table_frames w triangle_code ts ++ table_frames w vertex_code targets)

-- the text of a mesh; the first nine wood indices are every mesh's, and no frame has them
unfoldable pub mesh_text : ℕ → List ℕ → List ℕ → List ℕ
unfolding house_text
mesh_text n ts ws = house_text width n ts (drop 9 ws)

-- an edge's frame; nothing where the index is unused
unfoldable pub edge_line : ℕ → List ℕ → List ℕ → ℕ → List ℕ
unfolding used edge_frame
edge_line w refs service j =
    cond (used j) (edge_frame w j (at refs (front_place left j)) (at refs (front_place right j)) (at service j)) []

-- the text of an array of n vertices: the head, then each edge ascending
unfoldable pub array_text : ℕ → List ℕ → List ℕ → List ℕ
unfolding head_frame edge_line gather_from gather
array_text n refs service = head_frame width n ++ gather (edge_line width refs service) (3 * n)
