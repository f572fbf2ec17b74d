-- `build`: the sizes and the check refuse; else both fillers have filled.
use mathlib.Core.Path.{refl, sym, ◌∙◌}
use Rattle.std.proofs.Common.{rules}
use Rattle.array.proofs.BuildLaws.{Fitting, says_1, says_2, passed, build_refused, build_filled}
use Rattle.mesh.proofs.Verdict.{clear_verdict}
use Rattle.tables.proofs.CheckedLaws.{twins_read}
use Rattle.wood.specs.Checked.{MeshDone}
use Rattle.array.proofs.CheckLaws.{says_met, met_done, done_whole, done_clear, done_positions}
use Rattle.array.proofs.builder.build.Goals.{In_ok-refuse_if, In_ok-check_mesh}
use Rattle.array.proofs.builder.build.Goals as goal

-- past 1 and 2
right : (c : In_ok-refuse_if)
    → let a = c.args in
    Fitting a.n a.triangles.now a.wood.now a.references.now a.service.now
right c =
    let s = c.in_ok-size.ensures in
    passed _ _ _ _ _ _ _ s.range s.ok c.lengths_fit-fit.ensures c.in_ok-refuse_if.ensures

pub returns-in_err-size : goal.returns-in_err-size
returns-in_err-size c =
    build_refused _ _ _ _ _ _ c.in_err-size.field-0.0 (search rules) (says_1 _ _ _ _ _ _ c.in_err-size.ensures.range)

pub returns-in_err-refuse_if : goal.returns-in_err-refuse_if
returns-in_err-refuse_if c =
    let s = c.in_ok-size.ensures in
    build_refused _ _ _ _ _ _ c.in_err-refuse_if.field-0.0 (search rules)
    (says_2 _ _ _ _ _ _ _ s.range s.ok c.lengths_fit-fit.ensures _ c.in_err-refuse_if.ensures)

pub returns-in_err-check_mesh : goal.returns-in_err-check_mesh
returns-in_err-check_mesh c =
    let F = right (goal.at.returns-in_err-check_mesh c).In_ok-refuse_if in
    build_refused _ _ _ _ _ _ c.in_err-check_mesh.field-0.0 (search rules)
    (c.in_err-check_mesh.ensures.answer ∙ says_met F _ _ _ c.in_ok-size.ensures.ok c.corners.ensures c.edges.ensures)

done : (c : In_ok-check_mesh)
    → let a = c.args in
    let w = c.check_mesh.new in
    MeshDone c.in_ok-size.size.vertices a.triangles.now a.wood.now w.twins w.positions
done c =
    met_done (right (goal.at.In_ok-check_mesh c).In_ok-refuse_if) _ _ _ c.in_ok-size.ensures.ok c.corners.ensures c.edges.ensures c.in_ok-check_mesh.ensures refl

pub invariant_of-mesh : goal.invariant_of-mesh
invariant_of-mesh c =
    let d = done c in
    record {
      whole = done_whole d;
      clear = done_clear d;
      twin_table = twins_read _ _ d.reverses;
      position_table = done_positions d;
    }

pub invariant_of-mesh-2 : goal.invariant_of-mesh-2
invariant_of-mesh-2 c = record { accepted = clear_verdict _ _ _ (done (goal.at.invariant_of-mesh-2 c).In_ok-check_mesh).clear }

pub fill_references-requires : goal.fill_references-requires
fill_references-requires c =
    let F = right (goal.at.fill_references-requires c).In_ok-refuse_if in
    rw c.in_ok-size.ensures.ok F.references_right

pub fill_service-requires : goal.fill_service-requires
fill_service-requires c =
    let F = right (goal.at.fill_service-requires c).In_ok-refuse_if in
    rw c.in_ok-size.ensures.ok F.service_right

pub returns : goal.returns
returns c =
    let F = right (goal.at.returns c).In_ok-refuse_if in
    let s = c.in_ok-size.ensures.ok in
    build_filled _ _ _ _ _ _ _ _ (sym (says_met F _ _ _ s c.corners.ensures c.edges.ensures) ∙ sym c.in_ok-check_mesh.ensures.answer)
    (rw s at c.fill_references.ensures) (rw s at c.fill_service.ensures)
