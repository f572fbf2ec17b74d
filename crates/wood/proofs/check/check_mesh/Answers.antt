-- `check_mesh` meets 1 and 2 by itself, then the mesh's numbers; where one of these is met it marks both outputs.
use mathlib.Core.Path.{◌≡◌, refl, sym, ◌∙◌}
use mathlib.Core.List.{List}
use Prim.Native.Nat.{ℕ}
use Rattle.std.specs.Bool.{⊤}
use Rattle.std.specs.declared.result.Result.{Result}
use Rattle.mesh.proofs.Limits.{range_in}
use Rattle.tables.specs.declared.refusal.Refusal.{Refusal}
use Rattle.tables.specs.declared.refusal.Refusal.TheVariants.{VertexCount, Length}
use Rattle.tables.proofs.RungLaws.{passed, stopped, met_some, met_none}
use Rattle.wood.specs.Checked.{MeshSizes, MeshChecked}
use Rattle.wood.proofs.CheckedLaws.{lengths_differ, mesh_sizes, ends_1, ends_2, ends_done, ends_marked}
use Rattle.wood.proofs.check.check_mesh.Goals.{In_ok-refuse_if}
use Rattle.wood.proofs.check.check_mesh.Goals as goal

pub returns-in_err-size : goal.returns-in_err-size
returns-in_err-size c = ends_1 _ _ _ _ _ _ _ c.from_residual.ensures.1 (stopped VertexCount refl _ c.in_err-size.ensures.range)

-- the size is n's
at_size : {m n : ℕ} {ts ws twins positions twins' positions' : List ℕ} {r : Result ⊤ Refusal} → m ≡ n
    → MeshChecked m ts ws twins positions r twins' positions' → MeshChecked n ts ws twins positions r twins' positions'
at_size e h = rw (← e) h

pub returns-in_err-refuse_if : goal.returns-in_err-refuse_if
returns-in_err-refuse_if c =
    at_size c.in_ok-size.ensures.ok
    (ends_2 _ _ _ _ _ _ (range_in _ c.in_ok-size.size.in_range) _ c.from_residual-in_err-refuse_if.ensures.1
    (stopped Length (lengths_differ _ _ _ _ _ c.corners.ensures c.edges.ensures c.corners-2.ensures c.edges-2.ensures c.ne.ensures) _ c.in_err-refuse_if.ensures))

right : (c : In_ok-refuse_if) → let a = c.args in MeshSizes c.in_ok-size.size.vertices a.triangles.now a.wood.now a.twins.now a.positions.now
right c = mesh_sizes _ _ _ _ _ (range_in _ c.in_ok-size.size.in_range) (passed Length (lengths_differ _ _ _ _ _ c.corners.ensures c.edges.ensures c.corners-2.ensures c.edges-2.ensures c.ne.ensures) c.in_ok-refuse_if.ensures)

pub returns-then-is_err : goal.returns-then-is_err
returns-then-is_err c =
    let v = c.judge-verdict in
    at_size c.in_ok-size.ensures.ok
    (ends_marked _ _ _ _ _ _ (right (goal.at.returns-then-is_err c).In_ok-refuse_if) _ _ v.ensures
    (met_some v.result (sym c.is_err.ensures.value ∙ c.if-is_err.true)) _ _ v.auto.twins v.auto.positions c.mark_all.ensures c.mark_all-then-is_err.ensures)

pub returns-else-is_err : goal.returns-else-is_err
returns-else-is_err c =
    let v = c.judge-verdict in
    at_size c.in_ok-size.ensures.ok
    (ends_done _ _ _ _ _ _ (right (goal.at.returns-else-is_err c).In_ok-refuse_if) _ _ v.ensures
    (met_none v.result (sym c.is_err.ensures.value ∙ c.if-is_err.false)))
