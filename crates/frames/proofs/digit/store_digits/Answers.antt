-- `store_digits` stores the last digit first: what is left to store, before what is stored, is always the whole.
use mathlib.Core.Path.{◌≡◌, ◌∙◌}
use lib.ListN.{length-set}
use Rattle.frames.specs.Digits.{digits}
use Rattle.frames.proofs.DigitLaws.{digits_stored}
use native.Mathlib.Omega.{arith}
use Rattle.frames.proofs.digit.store_digits.Goals as goal

pub loop-i-preserved : goal.loop-i-preserved
loop-i-preserved c = record {
  same_length = simp length-set c.loop-i.invariant.same_length;
  whole = digits_stored c.loop-i.places c.loop-i.i c.loop-i.rest c.digit.result (omega arith) (omega arith) c.digit.ensures ∙ c.loop-i.invariant.whole;
}

pub returns : goal.returns
unfolding digits
returns c =
    let z : c.loop-i.i ≡ 0 = omega arith in
    rw z at c.loop-i.invariant.whole
