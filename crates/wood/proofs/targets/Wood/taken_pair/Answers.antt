-- `taken_pair` is a search over all edges.
use Rattle.std.proofs.Common.{rules, tests, refl, ap, ◌∙◌}
use Rattle.mesh.specs.Search.{lowest}
use Rattle.mesh.specs.Verdict.{pair_fault}
use Rattle.mesh.proofs.Ranges.{lowest_from_find}
use native.Mathlib.Omega.{arith}
use Rattle.wood.proofs.targets.Wood.taken_pair.Goals as goal

pub returns : goal.returns
returns c =
    let p = pair_fault c.args.self.now.targets.now in
    lowest_from_find p 0 c.edges.result (λ k l. absurd (omega arith)) _ _ _ c.find.ensures.ran refl (λ x b q k. search (rules, tests)) ∙
    ap (lowest p) c.edges.ensures
