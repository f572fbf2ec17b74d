-- `put_line` stores the code, then one field behind the other.
use Rattle.std.proofs.Common.{◌+◌, ◌++◌, length}
use Rattle.frames.specs.Digits.{digits}
use Rattle.frames.specs.Put.{Stored}
use Rattle.frames.proofs.FieldLaws.{before}
use Rattle.frames.proofs.frame.put_line.Given as goal

abbrev pub invariant-loop-k : goal.invariant-loop-k
invariant-loop-k l =
    let body = before l.fields l.k-index in
    Stored (2 + length body) (digits 2 l.code ++ body) 0 l.fn.part l.at l.part
