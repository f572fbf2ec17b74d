-- `decode_triangles`: the cursor stands after what the places so far have written.
use native.Mathlib.Omega.{arith}
use mathlib.Core.Path.{◌≡◌, sym, ◌∙◌}
use Rattle.mesh.specs.Rebuild.{written_at}
use Rattle.mesh.proofs.Lists.{gather_none}
use Rattle.mesh.proofs.Written.{writes}
use Rattle.rebuild.proofs.WritingLaws.{triangle_placed, unwritten_more, written_more, written_past, decoded_end}
use Rattle.rebuild.proofs.writing.decode_triangles.Goals.{After-is_written, then-is_written+else-triangles-cursor-lt3, else-is_written}
use Rattle.rebuild.proofs.writing.decode_triangles.Goals as goal

pub loop-i-init : goal.loop-i-init
loop-i-init c = let a = c.args in record { within = omega arith; front = sym (gather_none (written_at a.given.references.now a.wood.now)) }

-- the test, by the number of the place
tested : (c : After-is_written) → c.is_written.result ≡ writes c.args.given.references.now c.args.wood.now c.loop-i.i
tested c = let p = c.of-place.ensures in rw (p.tables.0, p.tables.1, p.edge, p.hand) at c.is_written.ensures

pub returns-then-triangles-cursor-lt3 : goal.returns-then-triangles-cursor-lt3
returns-then-triangles-cursor-lt3 c =
    let t = sym (tested (goal.at.returns-then-triangles-cursor-lt3 c).After-is_written) ∙ c.if-is_written.true in
    record {
      exact = rw (sym c.loop-i.auto.triangles)
          (written_past _ _ _ _ _ c.loop-i.invariant t c.args.given.size.vertices (omega (arith, c.references-i-end.ensures, c.loop-i-test.true)) (omega arith));
      table = λ e. absurd (omega (arith, e));
    }

pub loop-i-preserved : goal.loop-i-preserved
loop-i-preserved c =
    let e = sym (tested (goal.at.loop-i-preserved c).After-is_written) in
    let p = c.of-place.ensures in
    elim c.if-is_written.branch [
      | then-is_written+else-triangles-cursor-lt3 w ↦
          rw w.cursor-is
          (written_more _ _ _ _ _ c.loop-i.invariant (e ∙ w.if-is_written.true) _ _ _
          (w.copy_from_slice.ensures.after ∙ triangle_placed _ _ _ _ _ _ _ _ p.tables p.edge p.hand w.triangle.ensures) w.triangles-is
          c.if-is_written.auto.triangles (omega (arith, w.if-triangles-cursor-lt3.false)))
      | else-is_written w ↦ rw (w.cursor-is, w.triangles-is) (unwritten_more _ _ _ _ _ c.loop-i.invariant (e ∙ w.if-is_written.false))
    ]

pub returns : goal.returns
returns c =
    decoded_end _ _ _ _ _ c.loop-i.invariant _ _ _ (omega (arith, c.references-i-end.ensures, c.loop-i-test.false, c.loop-i.auto.i-end)) c.loop-i.auto.triangles c.refuse_if.ensures
