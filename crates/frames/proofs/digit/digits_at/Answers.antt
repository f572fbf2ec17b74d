-- `digits_at` asks it of each place.
use Rattle.std.proofs.Common.{rules, tests, refl, ◌+◌}
use Rattle.mesh.proofs.Ranges.{every_from_all}
use Rattle.frames.specs.Digits.{byte_at, is_digit, digits_at}
use native.Mathlib.Omega.{arith}
use Rattle.frames.proofs.digit.digits_at.Goals as goal

pub returns : goal.returns
unfolding digits_at
returns c =
    let a = c.args in
    every_from_all (λ i. is_digit (byte_at a.text.now (a.p + i))) 0 a.k (λ k l. absurd (omega arith)) _ _ _ c.all.ensures.ran refl
    (λ x b q k. search (rules, tests))
