-- `target_too_high` is a search over all indices.
use Rattle.std.proofs.Common.{rules, tests, refl, ap, ◌∙◌}
use Rattle.mesh.specs.Search.{some}
use Rattle.mesh.specs.Verdict.{target_fault}
use Rattle.mesh.proofs.Ranges.{some_from_any}
use native.Mathlib.Omega.{arith}
use Rattle.wood.proofs.targets.Wood.target_too_high.Goals as goal

pub returns : goal.returns
returns c =
    let s = c.args.self.now in
    let p = target_fault s.size.vertices s.targets.now in
    some_from_any p 0 c.edges.result (λ k l. absurd (omega arith)) _ _ _ c.any.ensures.ran refl (λ x b q k. search (rules, tests)) ∙
    ap (some p) c.edges.ensures
