-- `of` meets the tests in the order of the definition; a size is refused for its range alone.
use Rattle.arraytext.specs.ArrayText.{text_refusal, vertices_in}
use Rattle.arraytext.proofs.ReadingLaws.{head_number, range_refused}
use native.Mathlib.Omega.{arith}
use Rattle.arraytext.proofs.reading.ArrayText.of.Goals as goal

pub returns-in_err-size-clause-range : goal.returns-in_err-size-clause-range
unfolding text_refusal vertices_in
returns-in_err-size-clause-range c =
    let out = range_refused c.in_err-size.field-0.0 c.number_at.result c.in_err-size.ensures.range in
    grind (arith, head_number)

pub returns-in_err-refuse_if-2-clause-range : goal.returns-in_err-refuse_if-2-clause-range
unfolding text_refusal vertices_in
returns-in_err-refuse_if-2-clause-range c = grind (arith, head_number)
