-- `pair_taken` looks at the six edges that leave one of the two ends of e, two for each colour.
use Rattle.std.proofs.Common.{rules, tests, refl, sym, ap, ◌∙◌, ℕ, ◌*◌}
use Rattle.mesh.proofs.Ranges.{some_from_any}
use Rattle.wood.proofs.PairLaws.{six, among_six}
use native.Mathlib.Omega.{arith}
use Rattle.wood.proofs.pairs.pair_taken.Goals as goal

pub returns-then-used : goal.returns-then-used
returns-then-used c =
    let ws = c.args.ws.now in
    let e = c.args.e in
    rw (sym c.used.ensures ∙ c.if-used.true)
    (some_from_any (six ws e _ _) 0 3 (λ k l. absurd (omega arith)) _ _ _ c.any.ensures.ran refl (λ x b q k. search (rules, tests)) ∙
    among_six ws e _ _ refl (ap (λ (x : ℕ). 3 * x) c.at.ensures))
