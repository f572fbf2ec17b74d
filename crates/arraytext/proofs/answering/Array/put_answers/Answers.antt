-- `put_answers` stores one line behind the other, first those about indices.
use Rattle.std.proofs.Common.{◌≡◌, ◌+◌, ◌*◌}
use Rattle.frames.proofs.StoreLaws.{stored_wider, stored_more, lines_none}
use Rattle.arraytext.specs.AnswerLines.{about_index, about_vertex, index_answers, vertex_answers, answers_text, index_most, vertex_most, line_most, answers_limit}
use Rattle.arraytext.proofs.AnswerLaws.{line_behind}
use native.Mathlib.Omega.{arith}
use Rattle.arraytext.proofs.answering.Array.put_answers.Goals as goal

pub loop-j-init : goal.loop-j-init
loop-j-init c = lines_none (line_most index_most) _ 0 c.args.out.now

pub loop-j-preserved : goal.loop-j-preserved
loop-j-preserved c =
    let a = c.args.self.now in
    line_behind index_most about_index (index_answers a.size.vertices a.references.now a.service.now) 0 c.args.out.now c.loop-j.j c.loop-j.at c.loop-j.out c.loop-j.invariant
    c.about_index.result c.put_line-at.result c.put_line-at.new.part c.about_index.ensures (omega arith) c.put_line-at.ensures

pub loop-u-init : goal.loop-u-init
loop-u-init c = lines_none (line_most vertex_most) _ c.loop-j.at c.loop-j.out

pub loop-u-preserved : goal.loop-u-preserved
loop-u-preserved c =
    line_behind vertex_most about_vertex (vertex_answers c.args.self.now.size.vertices) c.loop-j.at c.loop-j.out c.loop-u.u c.loop-u.at c.loop-u.out c.loop-u.invariant
    c.about_vertex.result c.put_line-at-in-loop-u.result c.put_line-at-in-loop-u.new.part c.about_vertex.ensures (omega arith) c.put_line-at-in-loop-u.ensures

pub returns : goal.returns
unfolding answers_text
returns c =
    let n = c.args.self.now.size.vertices in
    let j : c.loop-j.j ≡ 3 * n + 1 = omega arith in
    let u : c.loop-u.u ≡ n + 1 = omega arith in
    stored_wider ((3 * n + 1) * line_most index_most + (n + 1) * line_most vertex_most) answers_limit _ 0 c.loop-u.at c.args.out.now c.loop-u.out (omega arith)
    (stored_more _ _ _ _ 0 c.loop-j.at c.loop-u.at c.args.out.now c.loop-j.out c.loop-u.out (rw j at c.loop-j.invariant) (rw u at c.loop-u.invariant))
