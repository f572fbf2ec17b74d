-- The four-vertex piece's array as a text, by computation: what `answers` and `rebuildlines` write for it, byte for byte
-- (SPECIFICATION, section 12), and what a text that is none, and one whose n is out of range, get.
use Prim.Native.Nat.{ℕ}
use mathlib.Core.Path.{◌≡◌, refl}
use mathlib.Core.List.{List, [], ◌∷◌}
use Rattle.frames.specs.Frames.{refusal_line, head_frame}
use Rattle.arraytext.specs.AnswerLines.{answer_lines_of}
use Rattle.arraytext.specs.RebuildLines.{rebuild_lines_of}

abbrev pub example_array : List ℕ
example_array =
    48 ∷ 48 ∷ 48 ∷ 48 ∷ 52 ∷ 10 ∷
    48 ∷ 51 ∷ 48 ∷ 48 ∷ 51 ∷ 48 ∷ 48 ∷ 54 ∷ 48 ∷ 48 ∷ 57 ∷ 48 ∷ 10 ∷
    48 ∷ 51 ∷ 48 ∷ 48 ∷ 54 ∷ 48 ∷ 48 ∷ 57 ∷ 48 ∷ 48 ∷ 51 ∷ 50 ∷ 10 ∷
    48 ∷ 51 ∷ 48 ∷ 48 ∷ 55 ∷ 48 ∷ 48 ∷ 51 ∷ 48 ∷ 48 ∷ 65 ∷ 49 ∷ 10 ∷
    48 ∷ 51 ∷ 48 ∷ 48 ∷ 57 ∷ 48 ∷ 48 ∷ 51 ∷ 48 ∷ 48 ∷ 54 ∷ 51 ∷ 10 ∷
    48 ∷ 51 ∷ 48 ∷ 48 ∷ 65 ∷ 48 ∷ 48 ∷ 55 ∷ 48 ∷ 48 ∷ 51 ∷ 51 ∷ 10 ∷
    48 ∷ 51 ∷ 48 ∷ 48 ∷ 66 ∷ 48 ∷ 48 ∷ 54 ∷ 48 ∷ 48 ∷ 55 ∷ 51 ∷ 10 ∷ []

abbrev pub example_answers : List ℕ
example_answers =
    48 ∷ 54 ∷ 48 ∷ 48 ∷ 48 ∷ 70 ∷ 48 ∷ 48 ∷ 69 ∷ 70 ∷ 48 ∷ 48 ∷ 69 ∷ 70 ∷ 48 ∷ 48 ∷ 69 ∷ 70 ∷ 48 ∷ 48 ∷ 69 ∷ 70 ∷ 48 ∷ 48 ∷ 69 ∷ 70 ∷ 48 ∷ 48 ∷ 69 ∷ 10 ∷
    48 ∷ 54 ∷ 48 ∷ 48 ∷ 49 ∷ 70 ∷ 48 ∷ 48 ∷ 69 ∷ 70 ∷ 48 ∷ 48 ∷ 69 ∷ 70 ∷ 48 ∷ 48 ∷ 69 ∷ 70 ∷ 48 ∷ 48 ∷ 69 ∷ 70 ∷ 48 ∷ 48 ∷ 69 ∷ 70 ∷ 48 ∷ 48 ∷ 69 ∷ 10 ∷
    48 ∷ 54 ∷ 48 ∷ 48 ∷ 50 ∷ 70 ∷ 48 ∷ 48 ∷ 69 ∷ 70 ∷ 48 ∷ 48 ∷ 69 ∷ 70 ∷ 48 ∷ 48 ∷ 69 ∷ 70 ∷ 48 ∷ 48 ∷ 69 ∷ 70 ∷ 48 ∷ 48 ∷ 69 ∷ 70 ∷ 48 ∷ 48 ∷ 69 ∷ 10 ∷
    48 ∷ 54 ∷ 48 ∷ 48 ∷ 51 ∷ 48 ∷ 48 ∷ 48 ∷ 49 ∷ 48 ∷ 48 ∷ 48 ∷ 48 ∷ 48 ∷ 48 ∷ 48 ∷ 48 ∷ 48 ∷ 48 ∷ 54 ∷ 48 ∷ 48 ∷ 48 ∷ 57 ∷ 48 ∷ 48 ∷ 48 ∷ 55 ∷ 48 ∷ 48 ∷ 48 ∷ 65 ∷ 10 ∷
    48 ∷ 54 ∷ 48 ∷ 48 ∷ 52 ∷ 70 ∷ 48 ∷ 48 ∷ 69 ∷ 70 ∷ 48 ∷ 48 ∷ 69 ∷ 70 ∷ 48 ∷ 48 ∷ 69 ∷ 70 ∷ 48 ∷ 48 ∷ 69 ∷ 70 ∷ 48 ∷ 48 ∷ 69 ∷ 70 ∷ 48 ∷ 48 ∷ 69 ∷ 10 ∷
    48 ∷ 54 ∷ 48 ∷ 48 ∷ 53 ∷ 70 ∷ 48 ∷ 48 ∷ 69 ∷ 70 ∷ 48 ∷ 48 ∷ 69 ∷ 70 ∷ 48 ∷ 48 ∷ 69 ∷ 70 ∷ 48 ∷ 48 ∷ 69 ∷ 70 ∷ 48 ∷ 48 ∷ 69 ∷ 70 ∷ 48 ∷ 48 ∷ 69 ∷ 10 ∷
    48 ∷ 54 ∷ 48 ∷ 48 ∷ 54 ∷ 48 ∷ 48 ∷ 48 ∷ 50 ∷ 48 ∷ 48 ∷ 48 ∷ 48 ∷ 48 ∷ 48 ∷ 50 ∷ 48 ∷ 48 ∷ 48 ∷ 57 ∷ 48 ∷ 48 ∷ 48 ∷ 51 ∷ 48 ∷ 48 ∷ 48 ∷ 66 ∷ 48 ∷ 48 ∷ 48 ∷ 55 ∷ 10 ∷
    48 ∷ 54 ∷ 48 ∷ 48 ∷ 55 ∷ 48 ∷ 48 ∷ 48 ∷ 50 ∷ 48 ∷ 48 ∷ 48 ∷ 49 ∷ 48 ∷ 48 ∷ 48 ∷ 48 ∷ 48 ∷ 48 ∷ 51 ∷ 48 ∷ 48 ∷ 48 ∷ 65 ∷ 48 ∷ 48 ∷ 48 ∷ 54 ∷ 48 ∷ 48 ∷ 48 ∷ 66 ∷ 10 ∷
    48 ∷ 54 ∷ 48 ∷ 48 ∷ 56 ∷ 70 ∷ 48 ∷ 48 ∷ 69 ∷ 70 ∷ 48 ∷ 48 ∷ 69 ∷ 70 ∷ 48 ∷ 48 ∷ 69 ∷ 70 ∷ 48 ∷ 48 ∷ 69 ∷ 70 ∷ 48 ∷ 48 ∷ 69 ∷ 70 ∷ 48 ∷ 48 ∷ 69 ∷ 10 ∷
    48 ∷ 54 ∷ 48 ∷ 48 ∷ 57 ∷ 48 ∷ 48 ∷ 48 ∷ 51 ∷ 48 ∷ 48 ∷ 48 ∷ 48 ∷ 48 ∷ 48 ∷ 49 ∷ 48 ∷ 48 ∷ 48 ∷ 51 ∷ 48 ∷ 48 ∷ 48 ∷ 54 ∷ 48 ∷ 48 ∷ 48 ∷ 65 ∷ 48 ∷ 48 ∷ 48 ∷ 66 ∷ 10 ∷
    48 ∷ 54 ∷ 48 ∷ 48 ∷ 65 ∷ 48 ∷ 48 ∷ 48 ∷ 51 ∷ 48 ∷ 48 ∷ 48 ∷ 49 ∷ 48 ∷ 48 ∷ 49 ∷ 48 ∷ 48 ∷ 48 ∷ 55 ∷ 48 ∷ 48 ∷ 48 ∷ 51 ∷ 48 ∷ 48 ∷ 48 ∷ 66 ∷ 48 ∷ 48 ∷ 48 ∷ 57 ∷ 10 ∷
    48 ∷ 54 ∷ 48 ∷ 48 ∷ 66 ∷ 48 ∷ 48 ∷ 48 ∷ 51 ∷ 48 ∷ 48 ∷ 48 ∷ 50 ∷ 48 ∷ 48 ∷ 49 ∷ 48 ∷ 48 ∷ 48 ∷ 54 ∷ 48 ∷ 48 ∷ 48 ∷ 55 ∷ 48 ∷ 48 ∷ 48 ∷ 57 ∷ 48 ∷ 48 ∷ 48 ∷ 65 ∷ 10 ∷
    48 ∷ 54 ∷ 48 ∷ 48 ∷ 67 ∷ 70 ∷ 48 ∷ 48 ∷ 69 ∷ 70 ∷ 48 ∷ 48 ∷ 69 ∷ 70 ∷ 48 ∷ 48 ∷ 69 ∷ 70 ∷ 48 ∷ 48 ∷ 69 ∷ 70 ∷ 48 ∷ 48 ∷ 69 ∷ 70 ∷ 48 ∷ 48 ∷ 69 ∷ 10 ∷
    48 ∷ 55 ∷ 48 ∷ 48 ∷ 48 ∷ 48 ∷ 48 ∷ 48 ∷ 51 ∷ 10 ∷
    48 ∷ 55 ∷ 48 ∷ 48 ∷ 49 ∷ 48 ∷ 48 ∷ 48 ∷ 51 ∷ 10 ∷
    48 ∷ 55 ∷ 48 ∷ 48 ∷ 50 ∷ 48 ∷ 48 ∷ 48 ∷ 54 ∷ 10 ∷
    48 ∷ 55 ∷ 48 ∷ 48 ∷ 51 ∷ 48 ∷ 48 ∷ 48 ∷ 57 ∷ 10 ∷
    48 ∷ 55 ∷ 48 ∷ 48 ∷ 52 ∷ 70 ∷ 48 ∷ 48 ∷ 70 ∷ 10 ∷ []

-- the triangles in rebuilding's order
abbrev pub example_rebuilt : List ℕ
example_rebuilt =
    48 ∷ 48 ∷ 48 ∷ 48 ∷ 52 ∷ 10 ∷
    48 ∷ 49 ∷ 48 ∷ 48 ∷ 49 ∷ 48 ∷ 48 ∷ 48 ∷ 48 ∷ 48 ∷ 50 ∷ 10 ∷
    48 ∷ 49 ∷ 48 ∷ 48 ∷ 48 ∷ 48 ∷ 48 ∷ 49 ∷ 48 ∷ 48 ∷ 51 ∷ 10 ∷
    48 ∷ 49 ∷ 48 ∷ 48 ∷ 50 ∷ 48 ∷ 48 ∷ 48 ∷ 48 ∷ 48 ∷ 51 ∷ 10 ∷
    48 ∷ 49 ∷ 48 ∷ 48 ∷ 49 ∷ 48 ∷ 48 ∷ 50 ∷ 48 ∷ 48 ∷ 51 ∷ 10 ∷
    48 ∷ 50 ∷ 48 ∷ 48 ∷ 48 ∷ 48 ∷ 48 ∷ 49 ∷ 48 ∷ 48 ∷ 50 ∷ 10 ∷ []

pub example_answers_holds : answer_lines_of example_array ≡ example_answers
unfolding answer_lines_of
example_answers_holds = refl

pub example_rebuilt_holds : rebuild_lines_of example_array ≡ example_rebuilt
unfolding rebuild_lines_of
example_rebuilt_holds = refl

-- nothing at all, and a head with n = 2
pub example_empty : answer_lines_of [] ≡ refusal_line 20
unfolding answer_lines_of refusal_line
example_empty = refl

pub example_range : answer_lines_of (head_frame 3 2) ≡ refusal_line 1
unfolding answer_lines_of head_frame refusal_line
example_range = refl
