-- `put_line` stores the line's code and what it is about, then one answer behind the other.
use Rattle.std.proofs.Common.{◌+◌, ◌-◌, ◌≤◌, length, take, drop, refl}
use lib.Seq.{take_all}
use Rattle.frames.proofs.StoreLaws.{stored_length}
use Rattle.frames.proofs.PartLaws.{length_rest}
use Rattle.arraytext.specs.AnswerLines.{about_code, spelled}
use Rattle.arraytext.proofs.AnswerLaws.{field_at, spelled_fit, digits_done, digits_count, line_starts, line_goes_on, line_ends}
use native.Mathlib.Omega.{arith}
use Rattle.arraytext.proofs.answering.put_line.Goals.{In-loop-answer}
use Rattle.arraytext.proofs.answering.put_line.Goals as goal

-- the next answer has room
room : (t : In-loop-answer) → t.loop-answer.at + (field_at t.args.answers.now t.loop-answer.answer-index).count ≤ length t.loop-answer.part
room t =
    let s = t.loop-answer.invariant in
    omega (arith, s.few, s.after, stored_length _ _ _ _ _ _ s, spelled_fit t.args.answers.now t.loop-answer.answer-index t.loop-answer-test.true, t.requires)

pub unwrap-at-requires : goal.unwrap-at-requires
unwrap-at-requires c = rw (digits_done _ _ _ _ _ (omega (arith, c.requires)) c.put_digits.ensures) refl

pub loop-answer-init : goal.loop-answer-init
loop-answer-init c =
    let a = c.args in
    line_starts (about_code a.about) a.x a.part.now c.put_digits.result c.put_digits.new.part c.unwrap-at.result (omega (arith, c.requires)) (rw c.code.ensures at c.put_digits.ensures) c.unwrap-at.ensures

pub slice_bounds-put_digits-count : goal.slice_bounds-put_digits-count
slice_bounds-put_digits-count c = omega (arith, room c)

pub slice_bounds-put_digits-start : goal.slice_bounds-put_digits-start
slice_bounds-put_digits-start c = omega (arith, room (goal.at.slice_bounds-put_digits-start c).In-loop-answer)

pub unwrap-at-requires-in-loop-answer : goal.unwrap-at-requires-in-loop-answer
unwrap-at-requires-in-loop-answer c =
    let t = (goal.at.unwrap-at-requires-in-loop-answer c).In-loop-answer in
    rw (digits_done _ _ _ _ _ (omega (arith, room t, length_rest c.loop-answer.at c.loop-answer.part)) c.put_digits-in-loop-answer.ensures) refl

pub loop-answer-preserved : goal.loop-answer-preserved
loop-answer-preserved c =
    let a = c.args in
    let t = (goal.at.loop-answer-preserved c).In-loop-answer in
    line_goes_on (about_code a.about) a.x a.answers.now c.loop-answer.answer-index c.loop-answer.at a.part.now c.loop-answer.part c.put_digits-in-loop-answer.result c.put_digits-in-loop-answer.new.part
    c.unwrap-at-in-loop-answer.result c.loop-answer-test.true (room t) c.loop-answer.invariant c.put_digits-in-loop-answer.ensures c.unwrap-at-in-loop-answer.ensures

pub overflow_add-at : goal.overflow_add-at
overflow_add-at c =
    let t = (goal.at.overflow_add-at c).In-loop-answer in
    let l : (field_at t.args.answers.now t.loop-answer.answer-index).count ≤ length (take (length c.loop-answer.part - c.loop-answer.at) (drop c.loop-answer.at c.loop-answer.part)) = omega (arith, room t, length_rest c.loop-answer.at c.loop-answer.part) in
    omega (arith, room t, digits_count _ _ _ _ _ l c.put_digits-in-loop-answer.ensures _ c.unwrap-at-in-loop-answer.ensures)

pub returns : goal.returns
returns c =
    let a = c.args in
    let e = take_all c.loop-answer.answer-index a.answers.now (omega (arith, c.loop-answer-test.false)) in
    line_ends (about_code a.about) a.x (length (spelled a.answers.now)) c.loop-answer.at (spelled a.answers.now) a.part.now c.loop-answer.part (rw e at c.loop-answer.invariant)
