-- `rebuild`: the sizes refuse; a decoded mesh is left in the outputs; else the mark is. Past the first test n is the size's.
use mathlib.Core.Path.{sym}
use Rattle.rebuild.specs.Decode.{RightSizes}
use Rattle.rebuild.proofs.RebuildLaws.{range_refuses, lengths_refuse, right_sizes, rebuild_done, rebuild_marked}
use Rattle.rebuild.proofs.rebuilder.rebuild.Goals.{In_ok-refuse_if}
use Rattle.rebuild.proofs.rebuilder.rebuild.Goals as goal

pub returns-in_err-size : goal.returns-in_err-size
returns-in_err-size c =
    let a = c.args in
    range_refuses a.n a.references.now a.wood.now a.triangles.now _ _ c.from_residual.ensures.1 c.in_err-size.ensures.range

pub returns-in_err-refuse_if : goal.returns-in_err-refuse_if
returns-in_err-refuse_if c =
    let a = c.args in
    let s = c.in_ok-size in
    rw (sym s.ensures.ok)
    (lengths_refuse s.size.vertices a.references.now a.wood.now a.triangles.now _ _ c.from_residual-in_err-refuse_if.ensures.1
    c.lengths_fit.result s.size.in_range c.lengths_fit.ensures c.in_err-refuse_if.ensures)

-- past both tests the sizes are right
right : (c : In_ok-refuse_if) → let a = c.args in RightSizes c.in_ok-size.size.vertices a.references.now a.wood.now a.triangles.now
right c =
    let a = c.args in
    right_sizes c.in_ok-size.size.vertices a.references.now a.wood.now a.triangles.now
    c.lengths_fit.result c.in_ok-size.size.in_range c.lengths_fit.ensures c.in_ok-refuse_if.ensures

pub invariant_of-given : goal.invariant_of-given
invariant_of-given c = record { whole = (right (goal.at.invariant_of-given c).In_ok-refuse_if).references_right }

pub decode_mesh-decoded-requires : goal.decode_mesh-decoded-requires
decode_mesh-decoded-requires c = let r = right (goal.at.decode_mesh-decoded-requires c).In_ok-refuse_if in (r.wood_right, r.triangles_right)

pub returns-then-is_err : goal.returns-then-is_err
returns-then-is_err c =
    let a = c.args in
    let s = c.in_ok-size in
    let d = c.decode_mesh-decoded in
    rw (sym s.ensures.ok)
    (rebuild_marked s.size.vertices a.references.now a.wood.now a.triangles.now (right (goal.at.returns-then-is_err c).In_ok-refuse_if) _ _ _ d.ensures _ _
    c.if-is_err.ensures.negation d.auto.wood d.auto.triangles c.mark_all.ensures c.mark_all-then-is_err.ensures)

pub returns-else-is_err : goal.returns-else-is_err
returns-else-is_err c =
    let a = c.args in
    let s = c.in_ok-size in
    let d = c.decode_mesh-decoded in
    rw (sym s.ensures.ok)
    (rebuild_done s.size.vertices a.references.now a.wood.now a.triangles.now (right (goal.at.returns-else-is_err c).In_ok-refuse_if) _ _ _ d.ensures
    c.if-is_err.ensures.negation)
