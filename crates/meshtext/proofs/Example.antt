-- The four-vertex piece, by computation: what `meshlines` answers to its text, byte for byte, and that this text is the one that the
-- definitions give the piece (SPECIFICATION, section 12).
use Prim.Native.Nat.{ℕ}
use mathlib.Core.Path.{◌≡◌, refl}
use mathlib.Core.List.{List, [], ◌∷◌, ◌++◌}
use Rattle.mesh.specs.Wood.{anchor_targets}
use Rattle.frames.specs.Frames.{mesh_text}
use Rattle.meshtext.specs.Reading.{mesh, read_text}
use Rattle.meshtext.specs.Answer.{meshlines_of}

abbrev pub example_triangles : List ℕ
example_triangles = 0 ∷ 2 ∷ 1 ∷ 0 ∷ 1 ∷ 3 ∷ 1 ∷ 2 ∷ 3 ∷ 2 ∷ 0 ∷ 3 ∷ []

abbrev pub example_targets : List ℕ
example_targets = 0 ∷ 1 ∷ 2 ∷ []

abbrev pub example_input : List ℕ
example_input =
    48 ∷ 48 ∷ 48 ∷ 48 ∷ 52 ∷ 10 ∷
    48 ∷ 49 ∷ 48 ∷ 48 ∷ 48 ∷ 48 ∷ 48 ∷ 50 ∷ 48 ∷ 48 ∷ 49 ∷ 10 ∷
    48 ∷ 49 ∷ 48 ∷ 48 ∷ 48 ∷ 48 ∷ 48 ∷ 49 ∷ 48 ∷ 48 ∷ 51 ∷ 10 ∷
    48 ∷ 49 ∷ 48 ∷ 48 ∷ 49 ∷ 48 ∷ 48 ∷ 50 ∷ 48 ∷ 48 ∷ 51 ∷ 10 ∷
    48 ∷ 49 ∷ 48 ∷ 48 ∷ 50 ∷ 48 ∷ 48 ∷ 48 ∷ 48 ∷ 48 ∷ 51 ∷ 10 ∷
    48 ∷ 50 ∷ 48 ∷ 48 ∷ 48 ∷ 48 ∷ 48 ∷ 49 ∷ 48 ∷ 48 ∷ 50 ∷ 10 ∷ []

abbrev pub example_output : List ℕ
example_output =
    48 ∷ 48 ∷ 48 ∷ 48 ∷ 52 ∷ 10 ∷
    48 ∷ 51 ∷ 48 ∷ 48 ∷ 51 ∷ 48 ∷ 48 ∷ 54 ∷ 48 ∷ 48 ∷ 57 ∷ 48 ∷ 10 ∷
    48 ∷ 51 ∷ 48 ∷ 48 ∷ 54 ∷ 48 ∷ 48 ∷ 57 ∷ 48 ∷ 48 ∷ 51 ∷ 50 ∷ 10 ∷
    48 ∷ 51 ∷ 48 ∷ 48 ∷ 55 ∷ 48 ∷ 48 ∷ 51 ∷ 48 ∷ 48 ∷ 65 ∷ 49 ∷ 10 ∷
    48 ∷ 51 ∷ 48 ∷ 48 ∷ 57 ∷ 48 ∷ 48 ∷ 51 ∷ 48 ∷ 48 ∷ 54 ∷ 51 ∷ 10 ∷
    48 ∷ 51 ∷ 48 ∷ 48 ∷ 65 ∷ 48 ∷ 48 ∷ 55 ∷ 48 ∷ 48 ∷ 51 ∷ 51 ∷ 10 ∷
    48 ∷ 51 ∷ 48 ∷ 48 ∷ 66 ∷ 48 ∷ 48 ∷ 54 ∷ 48 ∷ 48 ∷ 55 ∷ 51 ∷ 10 ∷ []

pub example_text : mesh_text 4 example_triangles (anchor_targets ++ example_targets) ≡ example_input
unfolding mesh_text
example_text = refl

pub example_read : read_text example_input ≡ mesh 4 example_triangles example_targets
unfolding read_text
example_read = refl

pub example_answer : meshlines_of example_input ≡ example_output
unfolding meshlines_of
example_answer = refl
