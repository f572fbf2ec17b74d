-- `put_digits` stores its digits from the front of its part.
use mathlib.Core.Path.{refl, sym}
use Rattle.frames.specs.Digits.{digits}
use Rattle.frames.proofs.DigitLaws.{length_digits}
use Rattle.frames.proofs.PutLaws.{no_room, wrote_frame}
use Rattle.frames.proofs.PartLaws.{filled_digits}
use native.Mathlib.Omega.{arith}
use Rattle.frames.proofs.digit.put_digits.Goals as goal

pub returns-then-part-k : goal.returns-then-part-k
returns-then-part-k c =
    let a = c.args in
    no_room _ (digits a.k a.x) a.part.now (omega (arith, length_digits a.k a.x))

pub returns : goal.returns
returns c =
    let a = c.args in
    wrote_frame (digits a.k a.x) a.part.now a.k _ (sym (length_digits a.k a.x)) c.if-part-k.false
    (filled_digits 0 a.k a.k a.x a.part.now c.store_digits.new.places refl (omega arith) c.store_digits.ensures).0
