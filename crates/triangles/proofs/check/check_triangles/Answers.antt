-- `check_triangles` meets 1 and 2 by itself, then the triangles' numbers; where one of these is met it marks what was written.
use Prim.Native.Nat.{ℕ}
use mathlib.Core.Path.{◌≡◌, refl, sym, ap, ◌∙◌}
use mathlib.Core.Bool.{false}
use lib.ListN.{replicate}
use borrow.Author.Tests.{eqb-true, eqb-false, not-true, not-false}
use Rattle.mesh.specs.Limits.{unused_mark, triangles_length, out_of_range}
use Rattle.mesh.specs.Ladder.{first_of}
use Rattle.mesh.specs.Verdict.{table_ladder}
use Rattle.mesh.proofs.Limits.{in_range}
use Rattle.tables.specs.declared.refusal.Refusal.TheVariants.{VertexCount, Length}
use Rattle.tables.specs.Refusal.{number_met}
use Rattle.triangles.specs.Table.{RightSizes}
use Rattle.triangles.proofs.CheckedLaws.{says_1, says_2_triangles, says_2_twins, ends_alone, ends_marked, ends_done}
use Rattle.tables.proofs.RungLaws.{passed, stopped, met_some, met_none}
use native.Mathlib.Omega.{arith}
use Rattle.triangles.proofs.check.check_triangles.Goals.{After-verdict-verdict, In_ok-size, In_ok-refuse_if-2}
use Rattle.triangles.proofs.check.check_triangles.Goals as goal

pub returns-in_err-size : goal.returns-in_err-size
returns-in_err-size c =
    let t = stopped VertexCount refl _ c.in_err-size.ensures.range in
    ends_alone _ _ _ _ _ c.from_residual.ensures.1 1 t.1 (says_1 _ _ _ t.0) (λ z. omega arith) (omega arith)

-- n is in range
few : (c : In_ok-size) → out_of_range c.args.n ≡ false
few c = passed VertexCount refl c.in_ok-size.ensures.range

pub returns-in_err-refuse_if : goal.returns-in_err-refuse_if
returns-in_err-refuse_if c =
    let t = stopped Length refl _ c.in_err-refuse_if.ensures in
    let w = eqb-false _ _ (not-true _ t.0) in
    ends_alone _ _ _ _ _ c.from_residual-in_err-refuse_if.ensures.1 2 t.1
    (says_2_triangles _ _ _ (few (goal.at.returns-in_err-refuse_if c).In_ok-size)
    (λ z. w (z ∙ sym (c.corners.ensures ∙ ap triangles_length c.in_ok-size.ensures.ok)))) (λ z. omega arith) (omega arith)

pub returns-in_err-refuse_if-2 : goal.returns-in_err-refuse_if-2
returns-in_err-refuse_if-2 c =
    let t = stopped Length refl _ c.in_err-refuse_if-2.ensures in
    let w = eqb-false _ _ (not-true _ t.0) in
    ends_alone _ _ _ _ _ c.from_residual-in_err-refuse_if-2.ensures.1 2 t.1
    (says_2_twins _ _ _ (few (goal.at.returns-in_err-refuse_if-2 c).In_ok-size)
    (λ z. w (z ∙ sym (c.corners-2.ensures ∙ ap triangles_length c.in_ok-size.ensures.ok)))) (λ z. omega arith) (omega arith)

right : (c : In_ok-refuse_if-2) → RightSizes c.args.n c.args.triangles.now c.args.twins.now
right c =
    let is = ap triangles_length c.in_ok-size.ensures.ok in
    record {
      range = in_range _ (few (goal.at.In_ok-refuse_if-2 c).In_ok-size);
      triangles_length_holds = eqb-true _ _ (not-false _ (passed Length refl c.in_ok-refuse_if.ensures)) ∙ c.corners.ensures ∙ is;
      twins_length = eqb-true _ _ (not-false _ (passed Length refl c.in_ok-refuse_if-2.ensures)) ∙ c.corners-2.ensures ∙ is;
    }

-- the number met is the ladder's
answer : (c : After-verdict-verdict) → number_met c.verdict-verdict.result ≡ first_of (table_ladder c.args.n c.args.triangles.now)
answer c = c.verdict-verdict.ensures.answer ∙ ap (λ (n : ℕ). first_of (table_ladder n c.args.triangles.now)) c.in_ok-size.ensures.ok

pub returns-then-is_err : goal.returns-then-is_err
returns-then-is_err c =
    let p = goal.at.returns-then-is_err c in
    let v = c.verdict-verdict in
    ends_marked _ _ _ _ (right p.In_ok-refuse_if-2) (answer p.After-verdict-verdict) (met_some v.result (sym c.is_err.ensures.value ∙ c.if-is_err.true)) _
    (c.mark_all.ensures ∙ ap (λ (m : ℕ). replicate m unused_mark) v.auto.twins)

pub returns-else-is_err : goal.returns-else-is_err
returns-else-is_err c =
    let p = goal.at.returns-else-is_err c in
    let v = c.verdict-verdict in
    let z = met_none v.result (sym c.is_err.ensures.value ∙ c.if-is_err.false) in
    ends_done _ _ _ _ (right p.In_ok-refuse_if-2) (answer p.After-verdict-verdict) z _ (v.ensures.reverses z)
