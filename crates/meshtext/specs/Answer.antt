-- What `meshlines` writes for a text: 19 by its length, 20 where it means nothing, then what building its mesh meets.
use Rattle.std.specs.Prelude.{ℕ, List, ◌++◌, cond, length, ltb, eqb}
use Rattle.mesh.specs.Wood.{anchor_targets}
use Rattle.mesh.specs.Verdict.{verdict}
use Rattle.mesh.specs.Array.{references_of, service_of}
use Rattle.frames.specs.Frames.{refusal_line, array_text}
use Rattle.frames.specs.Lines.{text_limit}
use Rattle.meshtext.specs.Reading.{Meaning, nothing, mesh, read_text}

-- the array's text, or the number that the mesh meets first
unfoldable pub mesh_answer : ℕ → List ℕ → List ℕ → List ℕ
unfolding verdict references_of service_of refusal_line array_text
mesh_answer n ts ws =
    let number : ℕ = verdict n ts ws in
    let array = array_text n (references_of n ts ws) (service_of n ts ws) in
    cond (eqb number 0) array (refusal_line number)

-- the reader puts the first nine wood indices, which are every mesh's, before the targets
unfoldable pub answer_to : Meaning → List ℕ
unfolding mesh_answer
answer_to nothing = refusal_line 20
answer_to (mesh n ts targets) = mesh_answer n ts (anchor_targets ++ targets)

unfoldable pub meshlines_of : List ℕ → List ℕ
unfolding answer_to read_text
meshlines_of text = let rest = answer_to (read_text text) in cond (ltb text_limit (length text)) (refusal_line 19) rest
