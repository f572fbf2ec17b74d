-- `put_line` stores the line's code and what it is about, then one answer behind the other.
use Rattle.std.proofs.Common.{◌+◌, ◌++◌, length, take}
use Rattle.frames.specs.Digits.{digits}
use Rattle.frames.specs.Frames.{width}
use Rattle.frames.specs.Put.{Stored}
use Rattle.arraytext.specs.AnswerLines.{about_code, spelled}
use Rattle.arraytext.proofs.answering.put_line.Given as goal

abbrev pub invariant-loop-answer : goal.invariant-loop-answer
invariant-loop-answer l =
    let answers = take l.answer-index l.answers in
    Stored (2 + width + length (spelled answers)) (digits 2 (about_code l.fn.about) ++ (digits width l.x ++ spelled answers)) 0 l.fn.part l.at l.part
