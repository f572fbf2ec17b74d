-- `put_array` writes the head, then each edge's line behind the last. Where the whole text has room, no writer is refused.
use mathlib.Core.Path.{◌≡◌, refl, subst, ◌∙◌}
use Prim.Native.Nat.{ℕ, ◌*◌}
use Rattle.std.specs.declared.result.Result.TheVariants.{Ok}
use Rattle.mesh.specs.Search.{gather}
use Rattle.frames.specs.Frames.{width, head_frame, edge_line, array_text}
use Rattle.frames.specs.Lines.{head_length, edge_length}
use Rattle.frames.specs.Put.{Stored}
use Rattle.frames.proofs.FrameLaws.{length_head}
use Rattle.frames.proofs.StoreLaws.{lines_none, lines_more}
use Rattle.frames.proofs.PutLaws.{no_room, wrote_over, same_count, never_refused}
use Rattle.meshtext.proofs.ArrayLaws.{length_array, line_room, array_wrote}
use native.Mathlib.Omega.{arith}
use Rattle.meshtext.proofs.writing.put_array.Goals.{After-put_head}
use Rattle.meshtext.proofs.writing.put_array.Goals as goal

pub returns-then-out-edges : goal.returns-then-out-edges
returns-then-out-edges c =
    let a = c.args in
    no_room _ (array_text a.size.vertices a.references.now a.service.now) a.out.now
    (omega (arith, length_array a.references.now a.service.now a.size.vertices a.size.in_range.enough))

-- the head has room
begun : (c : After-put_head) → c.put_head.result ≡ Ok (head_length width)
begun c =
    let a = c.args in
    let h = length_head width a.size.vertices in
    (wrote_over _ (head_frame width a.size.vertices) a.out.now c.put_head.result c.put_head.new.part c.put_head.ensures (omega (arith, c.if-out-edges.false))).0 ∙ rw h refl

pub returns-in_err-at : goal.returns-in_err-at
returns-in_err-at c =
    absurd (never_refused _ _ c.put_head.result (begun (goal.at.returns-in_err-at c).After-put_head) c.in_err-at.was)

first : (c : After-put_head) (at : ℕ) → c.put_head.result ≡ Ok at → at ≡ head_length width
first c at e = same_count _ _ c.put_head.result (begun c) e

pub loop-j-init : goal.loop-j-init
loop-j-init c = record {
  same_length = refl;
  lines = lines_none (edge_length width) (edge_line width c.args.references.now c.args.service.now) c.in_ok-at.at c.put_head.new.part;
}

pub put_edge_at-requires : goal.put_edge_at-requires
put_edge_at-requires c =
    let a = c.args in
    let f = first (goal.at.put_edge_at-requires c).After-put_head c.in_ok-at.at c.in_ok-at.was in (
      omega (
        arith,
        line_room a.references.now a.service.now a.size.vertices a.size.in_range.enough c.loop-j.j (omega (arith, c.loop-j-test.true)),
        c.loop-j.invariant.lines.after,
        c.put_head.auto.part,
        c.if-out-edges.false,
      ),
      omega (arith, c.requires),
      omega (arith, c.requires),
    )

pub loop-j-preserved : goal.loop-j-preserved
loop-j-preserved c =
    let a = c.args in
    let e : c.put_edge_at.ensures.next ≡ c.in_ok-at-2.at = cc (c.put_edge_at.ensures.answer, c.in_ok-at-2.was) in
    record {
      same_length = c.put_edge_at.auto.out ∙ c.loop-j.invariant.same_length;
      lines = lines_more (edge_length width) (edge_line width a.references.now a.service.now) c.in_ok-at.at c.put_head.new.part c.loop-j.j c.loop-j.at
          c.in_ok-at-2.at c.loop-j.out c.put_edge_at.new.out c.loop-j.invariant.lines
          (subst (λ (k : ℕ). Stored (edge_length width) (edge_line width a.references.now a.service.now c.loop-j.j) c.loop-j.at c.loop-j.out k c.put_edge_at.new.out) e
          c.put_edge_at.ensures.stored);
    }

pub returns : goal.returns
returns c =
    let a = c.args in
    let f = first (goal.at.returns c).After-put_head c.in_ok-at.at c.in_ok-at.was in
    let e : c.loop-j.j ≡ 3 * a.size.vertices = omega arith in
    array_wrote a.references.now a.service.now a.size.vertices a.size.in_range.enough a.out.now c.put_head.new.part c.loop-j.out c.put_head.result _ c.loop-j.at
    (omega (arith, c.if-out-edges.false)) c.put_head.ensures
    (subst (λ (s : ℕ). Stored (c.loop-j.j * edge_length width) (gather (edge_line width a.references.now a.service.now) (3 * a.size.vertices)) s c.put_head.new.part c.loop-j.at c.loop-j.out) f
    (subst (λ (j : ℕ). Stored (c.loop-j.j * edge_length width) (gather (edge_line width a.references.now a.service.now) j) c.in_ok-at.at c.put_head.new.part c.loop-j.at c.loop-j.out) e
    c.loop-j.invariant.lines))
