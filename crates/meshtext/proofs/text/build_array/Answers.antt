-- `build_array` meets 19, 20, then the sizes' numbers and the build's, and else leaves the array at the front of both tables.
use mathlib.Core.Path.{◌≡◌, refl, sym, ap, ◌∙◌}
use Prim.Native.Nat.{ℕ, ◌+◌, ◌-◌, ◌*◌, ◌≤◌}
use mathlib.Core.Bool.{Bool, false, cond}
use mathlib.Core.List.{List}
use lib.ListN.{length}
use lib.Seq.{length-take-le}
use borrow.Author.Tests.{ltb-true, ltb-false}
use Rattle.mesh.specs.Limits.{most_vertices, unused_mark, triangles_length, wood_length}
use Rattle.mesh.proofs.Tests.{by_bool}
use Rattle.tables.specs.declared.refusal.Refusal.{Refusal}
use Rattle.tables.specs.Refusal.{number, number_met}
use Rattle.tables.proofs.RefusalLaws.{number_above}
use Rattle.tables.proofs.TableLaws.{prefix_long}
use Rattle.frames.specs.Frames.{width}
use Rattle.frames.specs.Lines.{text_limit}
use Rattle.meshtext.specs.Reading.{frame_count, triangle_count}
use Rattle.meshtext.specs.Answer.{meshlines_of}
use Rattle.tables.proofs.RungLaws.{stopped_by, passed_by}
use Rattle.meshtext.proofs.SizeLaws.{sizes_fit}
use Rattle.meshtext.proofs.TableLaws.{length_triangles, length_wood}
use Rattle.meshtext.proofs.AnswerLaws.{answer_long, answer_wrong, sizes_refused, build_accepted, build_refused, lines_refused, lines_built}
use native.Mathlib.Omega.{arith}
use Rattle.meshtext.proofs.text.build_array.Goals.{In_ok-refuse_if, In_ok-size}
use Rattle.meshtext.proofs.text.build_array.Goals as goal

pub returns-in_err-refuse_if : goal.returns-in_err-refuse_if
returns-in_err-refuse_if c =
    let a = c.args in
    let s = stopped_by _ 19 _ c.in_err-refuse_if.ensures in
    lines_refused _ _ _ _ 19 c.from_residual.ensures.1 s.1 ∙ sym (answer_long a.text.now (ltb-true _ _ s.0))

-- the refusal of what is no text
unread : (b : Bool) (s : Refusal) → number s ≡ cond b 0 20 → (b ≡ false) × (number s ≡ 20)
unread b s e =
    by_bool b (λ t. absurd (let a = number_above s in let f : number s ≡ 0 = rw t at e in omega arith)) (λ t. (t, rw t at e))

short : (c : In_ok-refuse_if) → length c.args.text.now ≤ text_limit
short c = ltb-false _ _ (passed_by _ 18 c.in_ok-refuse_if.ensures)

pub returns-in_err-mesh : goal.returns-in_err-mesh
returns-in_err-mesh c =
    let a = c.args in
    let l = short (goal.at.returns-in_err-mesh c).In_ok-refuse_if in
    let s = unread _ _ c.in_err-mesh.ensures.met in
    lines_refused _ _ _ _ 20 c.from_residual-in_err-mesh.ensures.1 s.1 ∙ sym (answer_wrong a.text.now l s.0)

-- what was read is the text
short_read : (c : In_ok-refuse_if) (read : List ℕ) → read ≡ c.args.text.now → length read ≤ text_limit
short_read c read e = omega (arith, short c, ap length e)

pub returns-in_err-size : goal.returns-in_err-size
returns-in_err-size c =
    let m = c.in_ok-mesh.mesh in
    let l = short_read (goal.at.returns-in_err-size c).In_ok-refuse_if m.text.now c.in_ok-mesh.ensures.ok in
    let a = number_above c.in_err-size.field-0.0 in
    lines_refused _ _ _ _ _ c.from_residual-in_err-size.ensures.1 refl ∙
    sym (sizes_refused m.text.now l m.text_is _ (sym c.in_err-size.ensures.met) (λ z. omega arith)) ∙ ap meshlines_of c.in_ok-mesh.ensures.ok

-- the lengths that the size asks
sized : (c : In_ok-size) →
    let m = c.in_ok-mesh.mesh.text.now in
    let n = c.in_ok-size.size.vertices in
    (triangles_length n ≡ 3 * triangle_count width m) × (wood_length n ≡ 9 + 3 * (frame_count width m - triangle_count width m))
sized c =
    let m = c.in_ok-mesh.mesh.text.now in
    let f = sizes_fit m (sym c.in_ok-size.ensures.met) in
    let e = c.in_ok-size.ensures.ok in
    (ap triangles_length e ∙ sym f.1 ∙ length_triangles m, ap wood_length e ∙ sym f.2 ∙ length_wood m)

pub fill_corners-requires : goal.fill_corners-requires
fill_corners-requires c =
    let r = c.in_ok-size.size.in_range in
    sym (prefix_long _ (triangles_length most_vertices) unused_mark (omega arith)) ∙ c.corners.ensures ∙ (sized (goal.at.fill_corners-requires c).In_ok-size).0

pub fill_wood-requires : goal.fill_wood-requires
fill_wood-requires c =
    let r = c.in_ok-size.size.in_range in
    sym (prefix_long _ (wood_length most_vertices) unused_mark (omega arith)) ∙ c.edges.ensures ∙ (sized (goal.at.fill_wood-requires c).In_ok-size).1

pub returns-in_err-build : goal.returns-in_err-build
returns-in_err-build c =
    let m = c.in_ok-mesh.mesh in
    let l = short_read (goal.at.returns-in_err-build c).In_ok-refuse_if m.text.now c.in_ok-mesh.ensures.ok in
    lines_refused _ _ _ _ _ c.from_residual-in_err-build.ensures.1 refl ∙
    sym (build_refused m.text.now l m.text_is _ _ _ _ _ c.build.result _ _ c.build.ensures c.in_ok-size.ensures.ok c.fill_corners.ensures c.fill_wood.ensures
    (length-take-le _ _ (omega arith) ∙ c.references.ensures) (length-take-le _ _ (omega arith) ∙ c.edges-2.ensures) _ c.in_err-build.was) ∙
    ap meshlines_of c.in_ok-mesh.ensures.ok

pub returns : goal.returns
returns c =
    let m = c.in_ok-mesh.mesh in
    let l = short_read (goal.at.returns c).In_ok-refuse_if m.text.now c.in_ok-mesh.ensures.ok in
    lines_built c.in_ok-size.size c.build.new.references c.build.new.service _ _
    (c.build.auto.references ∙ length-take-le _ _ (omega arith) ∙ c.references.ensures) (c.build.auto.service ∙ length-take-le _ _ (omega arith) ∙ c.edges-2.ensures) ∙
    sym (build_accepted m.text.now l m.text_is _ _ _ _ _ c.build.result _ _ c.build.ensures c.in_ok-size.ensures.ok c.fill_corners.ensures c.fill_wood.ensures (ap number_met c.in_ok-build.was)) ∙
    ap meshlines_of c.in_ok-mesh.ensures.ok
