-- `anchor_rule_broken` is a search over all edges.
use Rattle.std.proofs.Common.{rules, tests, refl, ap, ◌∙◌}
use Rattle.mesh.specs.Search.{some}
use Rattle.mesh.specs.Verdict.{anchor_fault}
use Rattle.mesh.proofs.Ranges.{some_from_any}
use native.Mathlib.Omega.{arith}
use Rattle.wood.proofs.targets.Wood.anchor_rule_broken.Goals as goal

pub returns : goal.returns
returns c =
    let s = c.args.self.now in
    let p = anchor_fault s.targets.now in
    some_from_any p 0 c.edges.result (λ k l. absurd (omega arith)) _ _ _ c.any.ensures.ran refl (λ x b q k. search (rules, tests)) ∙
    ap (some p) c.edges.ensures
