-- What `answers` writes for an array's text: a line for each index from 0 to 3n, then one for each vertex from 0 to n (SPECIFICATION, section 11).
use Rattle.std.specs.Prelude.{ℕ, ◌+◌, ◌*◌, ◌≤◌, ◌≡◌, List, [], ◌∷◌, ◌++◌, length}
use Rattle.mesh.specs.Search.{gather_from, gather}
use Rattle.mesh.specs.Limits.{most_vertices}
use Rattle.mesh.specs.Array.{left, right}
use Rattle.mesh.specs.Reading.{read_source, read_edge, read_target_of, read_front, read_back}
use Rattle.frames.specs.Digits.{digits}
use Rattle.frames.specs.Frames.{width, line}
use Rattle.arraytext.specs.declared.answering.About.{About}
use Rattle.arraytext.specs.declared.answering.About.TheVariants.{Index, Vertex}
use Rattle.arraytext.specs.declared.field.Field.{Field}
use Rattle.arraytext.specs.ArrayText.{lines_for}

-- numbers one after the other
unfoldable pub numbers : List ℕ → List ℕ
unfolding digits
numbers [] = []
numbers (x ∷ xs) = digits width x ++ numbers xs

-- an answer, listed as 0 and the values or as the refusal's number alone: a 0 and each value, or F0 and the number
unfoldable pub field : List ℕ → List ℕ
unfolding numbers
field [] = []
field (k ∷ []) = digits 2 240 ++ digits 2 k
field (k ∷ v ∷ vs) = digits 1 0 ++ numbers (v ∷ vs)

unfoldable pub fields : List (List ℕ) → List ℕ
unfolding field
fields [] = []
fields (a ∷ rest) = field a ++ fields rest

-- the codes of the two kinds of lines, by what they are about
abbrev pub about_index : ℕ
about_index = 6

abbrev pub about_vertex : ℕ
about_vertex = 7

abbrev pub about_code : About → ℕ
about_code Index = about_index
about_code Vertex = about_vertex

-- what is asked of an index: Source, Target, the Fronts, the Backs; of a vertex: Edge
unfoldable pub index_answers : ℕ → List ℕ → List ℕ → ℕ → List (List ℕ)
unfolding read_source read_target_of read_front read_back
index_answers n refs service j =
    read_source n j ∷ read_target_of n refs j ∷ read_front left n refs j ∷ read_front right n refs j ∷
    read_back left n refs service j ∷ read_back right n refs service j ∷ []

unfoldable pub vertex_answers : ℕ → ℕ → List (List ℕ)
unfolding read_edge
vertex_answers n u = read_edge n u ∷ []

-- a line: its code, what it is about, the answers
unfoldable pub answer_line : ℕ → (ℕ → List (List ℕ)) → ℕ → List ℕ
unfolding line fields
answer_line code answers x = line code (digits width x ++ fields (answers x))

unfoldable pub answers_text : ℕ → List ℕ → List ℕ → List ℕ
unfolding index_answers vertex_answers answer_line gather_from gather
answers_text n refs service =
    gather (answer_line about_index (index_answers n refs service)) (3 * n + 1) ++ gather (answer_line about_vertex (vertex_answers n)) (n + 1)

unfoldable pub answer_lines_of : List ℕ → List ℕ
unfolding answers_text lines_for
answer_lines_of text = lines_for answers_text text

-- the most bytes of an answer, and of those of each line: Target's carries its reads besides
abbrev pub value_length : ℕ
value_length = 1 + width

abbrev pub index_most : ℕ
index_most = 6 * value_length + width

abbrev pub vertex_most : ℕ
vertex_most = value_length

-- of a line whose answers take at most so many, and of the whole output for the most vertices
abbrev pub line_most : ℕ → ℕ
line_most most = 3 + width + most

abbrev pub answers_limit : ℕ
answers_limit = (3 * most_vertices + 1) * line_most index_most + (most_vertices + 1) * line_most vertex_most

-- the digits of one number spell an answer, and there are at most so many
pub record Spells (most : ℕ) (f : Field) (answer : List ℕ) : Type 0 where
  pub few : f.count ≤ most
  pub spelled : digits f.count f.value ≡ field answer

-- the bytes of fields one after the other
unfoldable pub spelled : List Field → List ℕ
unfolding digits
spelled [] = []
spelled (f ∷ fs) = digits f.count f.value ++ spelled fs

-- they spell the answers of a line, and there are at most so many
pub record SpellsAll (most : ℕ) (fs : List Field) (answers : List (List ℕ)) : Type 0 where
  pub few : length (spelled fs) ≤ most
  pub same : spelled fs ≡ fields answers
