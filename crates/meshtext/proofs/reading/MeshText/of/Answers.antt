-- `of` meets the tests in the order of the definition. A head that is there lies within the text.
use native.Mathlib.Omega.{arith}
use mathlib.Core.Path.{◌≡◌, sym, ap, ◌∙◌}
use mathlib.Core.Bool.{true, cond}
use Prim.Native.Nat.{ℕ, ◌-◌}
use borrow.Author.Tests.{eqb-true, eqb-false, not-true, not-false}
use Rattle.frames.specs.Frames.{width, head_code}
use Rattle.frames.specs.Lines.{is_head}
use Rattle.frames.proofs.LineLaws.{line_inside}
use Rattle.meshtext.specs.Reading.{frame_count}
use Rattle.tables.proofs.RungLaws.{stopped_by, passed_by, handed_number}
use Rattle.meshtext.proofs.ReadingLaws.{text_headless, text_ragged, text_mixed, text_right, counted_same, counted_bound}
use Rattle.meshtext.proofs.reading.MeshText.of.Goals.{In_ok-refuse_if, In_ok-refuse_if-2}
use Rattle.meshtext.proofs.reading.MeshText.of.Goals as goal

pub returns-in_err-refuse_if-clause-met : goal.returns-in_err-refuse_if-clause-met
returns-in_err-refuse_if-clause-met c =
    let s = stopped_by _ 20 _ c.in_err-refuse_if.ensures in
    let w = text_headless c.args.text.now (sym c.is_line.ensures ∙ not-true _ s.0) in
    handed_number _ _ c.from_residual.ensures.1 ∙ s.1 ∙ ap (λ b. cond b 0 20) (sym w)

head : (c : In_ok-refuse_if) → is_head width c.args.text.now ≡ true
head c = sym c.is_line.ensures ∙ not-false _ (passed_by _ 19 c.in_ok-refuse_if.ensures)

pub overflow_sub-count : goal.overflow_sub-count
overflow_sub-count c = omega (arith, line_inside head_code width c.args.text.now 0 (head c))

pub returns-in_err-refuse_if-2-clause-met : goal.returns-in_err-refuse_if-2-clause-met
returns-in_err-refuse_if-2-clause-met c =
    let s = stopped_by _ 20 _ c.in_err-refuse_if-2.ensures in
    let w = text_ragged c.args.text.now (λ e. eqb-false _ _ (not-true _ s.0) e) in
    handed_number _ _ c.from_residual-in_err-refuse_if-2.ensures.1 ∙ s.1 ∙ ap (λ b. cond b 0 20) (sym w)

pub returns-in_err-refuse_if-3-clause-met : goal.returns-in_err-refuse_if-3-clause-met
returns-in_err-refuse_if-3-clause-met c =
    let s = stopped_by _ 20 _ c.in_err-refuse_if-3.ensures in
    let w = text_mixed c.args.text.now _ c.triangles-triangles.ensures (sym c.are_vertices.ensures ∙ not-true _ s.0) in
    handed_number _ _ c.from_residual-in_err-refuse_if-3.ensures.1 ∙ s.1 ∙ ap (λ b. cond b 0 20) (sym w)

pub overflow_sub-result : goal.overflow_sub-result
overflow_sub-result c = counted_bound c.args.text.now _ c.triangles-triangles.ensures

pub invariant_of-result : goal.invariant_of-result
invariant_of-result c =
    let t = c.args.text.now in
    let k = counted_same t _ c.triangles-triangles.ensures in
    record {
      text_is = text_right t _ c.triangles-triangles.ensures (head (goal.at.invariant_of-result c).In_ok-refuse_if)
          (eqb-true _ _ (not-false _ (passed_by _ 19 c.in_ok-refuse_if-2.ensures))) (sym c.are_vertices.ensures ∙ not-false _ (passed_by _ 19 c.in_ok-refuse_if-3.ensures));
      triangles_are = k;
      vertices_are = ap (λ (a : ℕ). frame_count width t - a) k;
    }
