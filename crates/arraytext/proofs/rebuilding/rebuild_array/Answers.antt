-- `rebuild_array` writes the rebuilt mesh, whose inner vertices are the wood from place 9 on, or the refusal.
use Rattle.std.proofs.Common.{List, ℕ, sym, ap, subst, ◌∙◌}
use Rattle.frames.specs.Frames.{width, house_text, refusal_line}
use Rattle.frames.specs.Lines.{text_limit}
use Rattle.frames.specs.Put.{WroteInRoom, Stored}
use Rattle.frames.proofs.PutLaws.{stored_front, frame_front}
use Rattle.frames.proofs.PartLaws.{rest}
use Rattle.frames.proofs.FrameLaws.{length_refusal}
use Rattle.arraytext.proofs.RebuildLaws.{right_sizes, text_rebuilt, text_refused}
use native.Mathlib.Omega.{arith}
use Rattle.arraytext.proofs.rebuilding.rebuild_array.Goals as goal

pub returns-in-Ok : goal.returns-in-Ok
returns-in-Ok c =
    let t = c.args.text in
    let n = t.size.vertices in
    let ws = c.rebuild.new.wood in
    let ts = c.rebuild.new.triangles in
    rw (sym c.read_references.ensures)
    (stored_front text_limit _ c.args.out.now c.put_mesh.result c.put_mesh.new.out c.requires
    (subst (λ (x : List ℕ). Stored text_limit x 0 c.args.out.now c.put_mesh.result c.put_mesh.new.out)
    (ap (house_text width n ts) (rest 9 ws) ∙
    text_rebuilt n c.read_references.new.references _ _ (right_sizes n t.text.now c.read_references.new.references c.edges.result c.corners.result t.size.in_range c.read_references.ensures c.edges.ensures c.corners.ensures)
    c.rebuild.result ws ts c.rebuild.ensures c.in-Ok.field-0 c.in-Ok.is)
    c.put_mesh.ensures))

pub returns-in-Err : goal.returns-in-Err
returns-in-Err c =
    let t = c.args.text in
    let n = t.size.vertices in
    rw (sym c.read_references.ensures)
    (subst (λ (x : List ℕ). WroteInRoom text_limit x c.args.out.now c.put_refusal.result c.put_refusal.new.part)
    (ap refusal_line c.number.ensures ∙
    text_refused n c.read_references.new.references _ _ (right_sizes n t.text.now c.read_references.new.references c.edges.result c.corners.result t.size.in_range c.read_references.ensures c.edges.ensures c.corners.ensures)
    c.rebuild.result c.rebuild.new.wood c.rebuild.new.triangles c.rebuild.ensures c.in-Err.refusal c.in-Err.is)
    (frame_front _ c.args.out.now c.put_refusal.result c.put_refusal.new.part c.put_refusal.ensures text_limit (omega (arith, length_refusal c.number.result)) c.requires))
