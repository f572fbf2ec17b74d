-- What `rebuildlines` writes for an array's text: the rebuilt mesh as house text, or the line of the refusal (SPECIFICATION, section 11).
use Rattle.std.specs.Prelude.{ℕ, List, cond, eqb}
use Rattle.mesh.specs.Rebuild.{rebuild_says, rebuilt_wood, rebuilt_triangles}
use Rattle.frames.specs.Frames.{refusal_line, mesh_text}
use Rattle.arraytext.specs.ArrayText.{lines_for}

unfoldable pub rebuild_text : ℕ → List ℕ → List ℕ
unfolding rebuild_says rebuilt_triangles rebuilt_wood mesh_text refusal_line
rebuild_text n refs =
    let text = mesh_text n (rebuilt_triangles n refs) (rebuilt_wood n refs) in
    let number : ℕ = rebuild_says n refs in
    cond (eqb number 0) text (refusal_line number)

-- the service bytes have no part in it
unfoldable pub rebuild_lines_of : List ℕ → List ℕ
unfolding rebuild_text lines_for
rebuild_lines_of text = lines_for (λ n refs service. rebuild_text n refs) text
