-- `number_at` takes one digit more at each call of the closure, modulo 65,536.
use Rattle.std.proofs.Common.{rules, tests, ◌≡◌, refl, ◌∙◌}
use Rattle.std.proofs.iter.Yields.{nat_range_steps}
use Rattle.std.proofs.lemmas.Fn.{fold_over}
use Rattle.std.proofs.lemmas.Iterator.{YieldsList-from_range}
use Rattle.std.proofs.lemmas.List.Sums.{fold_push}
use Rattle.std.specs.List.{fold, range_with_len}
use native.Mathlib.Omega.{arith}
use Rattle.frames.proofs.DigitReadLaws.{digit_more, number_folded}
use Rattle.frames.proofs.digit.number_at.Goals as goal

pub returns : goal.returns
returns c =
    let a = c.args in
    let h = digit_more a.text.now a.p in
    fold_over nat_range_steps (λ x. x) _ (λ ys v. v ≡ fold h 0 ys) _ (λ ys v x b q j k. let more = fold_push h 0 ys x in search (rules, tests)) _
    (range_with_len 0 a.k) 0 _ (YieldsList-from_range 0 a.k a.k refl (omega arith)).runs refl c.fold.ensures.ran ∙
    number_folded a.k a.text.now a.p
