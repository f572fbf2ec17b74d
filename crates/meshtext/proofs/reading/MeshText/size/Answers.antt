-- `size` meets 1 by n, then 2 by the counts of triangle and of vertex frames.
use native.Mathlib.Omega.{arith}
use mathlib.Core.Path.{◌≡◌, sym, ap, ◌∙◌}
use mathlib.Core.Bool.{false}
use borrow.Author.Tests.{eqb-true, eqb-false, not-true, not-false}
use Rattle.mesh.specs.Limits.{out_of_range}
use Rattle.frames.specs.Digits.{number_at}
use Rattle.frames.specs.Frames.{width}
use Rattle.tables.proofs.RungLaws.{stopped_by, passed_by, handed_number}
use Rattle.meshtext.proofs.ReadingLaws.{n_read, triangles_bound}
use Rattle.meshtext.proofs.SizeLaws.{sizes_out, sizes_corners, sizes_wood, sizes_right}
use Rattle.meshtext.proofs.TableLaws.{length_triangles, length_wood}
use Rattle.meshtext.proofs.reading.MeshText.size.Goals.{In_ok-size}
use Rattle.meshtext.proofs.reading.MeshText.size.Goals as goal

pub returns-in_err-size-clause-met : goal.returns-in_err-size-clause-met
returns-in_err-size-clause-met c =
    let t = c.args.self.now in
    let s = stopped_by _ 1 _ c.in_err-size.ensures.range in
    let e = c.number_at.ensures ∙ n_read t.text.now t.text_is in
    handed_number _ _ c.from_residual.ensures.1 ∙ s.1 ∙ sym (sizes_out t.text.now (ap out_of_range (sym e) ∙ s.0))

-- n, and that it is in range
sized : (c : In_ok-size) →
    let t = c.args.self.now.text.now in
    (c.in_ok-size.size.vertices ≡ number_at width t 2) × (out_of_range (number_at width t 2) ≡ false)
sized c =
    let t = c.args.self.now in
    let e = c.number_at.ensures ∙ n_read t.text.now t.text_is in
    (c.in_ok-size.ensures.ok ∙ e, ap out_of_range (sym e) ∙ passed_by _ 0 c.in_ok-size.ensures.range)

pub overflow_mul-self : goal.overflow_mul-self
overflow_mul-self c =
    let t = c.args.self.now in
    omega (arith, triangles_bound width t.text.now)

pub returns-in_err-refuse_if-clause-met : goal.returns-in_err-refuse_if-clause-met
returns-in_err-refuse_if-clause-met c =
    let t = c.args.self.now in
    let n = sized (goal.at.returns-in_err-refuse_if-clause-met c).In_ok-size in
    let s = stopped_by _ 2 _ c.in_err-refuse_if.ensures in
    let d = eqb-false _ _ (not-true _ s.0) in
    handed_number _ _ c.from_residual-in_err-refuse_if.ensures.1 ∙ s.1 ∙
    sym (sizes_corners t.text.now n.1 (λ e. d (omega (arith, length_triangles t.text.now, c.corners.ensures))))

pub returns-in_err-refuse_if-2-clause-met : goal.returns-in_err-refuse_if-2-clause-met
returns-in_err-refuse_if-2-clause-met c =
    let t = c.args.self.now in
    let n = sized (goal.at.returns-in_err-refuse_if-2-clause-met c).In_ok-size in
    let s = stopped_by _ 2 _ c.in_err-refuse_if-2.ensures in
    let d = eqb-false _ _ (not-true _ s.0) in
    handed_number _ _ c.from_residual-in_err-refuse_if-2.ensures.1 ∙ s.1 ∙
    sym (sizes_wood t.text.now n.1 (λ e. d (omega (arith, length_wood t.text.now, c.edges.ensures))))

pub returns-clause-met : goal.returns-clause-met
returns-clause-met c =
    let t = c.args.self.now in
    let n = sized (goal.at.returns-clause-met c).In_ok-size in
    let a = eqb-true _ _ (not-false _ (passed_by _ 1 c.in_ok-refuse_if.ensures)) in
    let b = eqb-true _ _ (not-false _ (passed_by _ 1 c.in_ok-refuse_if-2.ensures)) in
    sym (sizes_right t.text.now n.1 (omega (arith, length_triangles t.text.now, c.corners.ensures)) (omega (arith, length_wood t.text.now, c.edges.ensures)))

pub returns-clause-ok : goal.returns-clause-ok
returns-clause-ok c = (sized (goal.at.returns-clause-ok c).In_ok-size).0
