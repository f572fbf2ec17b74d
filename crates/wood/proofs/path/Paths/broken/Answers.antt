-- `broken` asks each colour in turn.
use Rattle.std.proofs.Common.{rules, tests, refl, ◌∙◌}
use Rattle.mesh.specs.Search.{some}
use Rattle.mesh.proofs.Ranges.{some_from_any}
use Rattle.wood.specs.Paths.{colour_fault}
use Rattle.wood.proofs.PathLaws.{path_colours}
use native.Mathlib.Omega.{arith}
use Rattle.wood.proofs.path.Paths.broken.Goals as goal

pub returns : goal.returns
returns c =
    let s = c.args.self.now.wood in
    some_from_any (λ k. some (colour_fault s.size.vertices s.targets.now k) s.size.vertices) 0 3 (λ k l. absurd (omega arith)) _ _ _ c.any.ensures.ran refl
    (λ x b q k. search (rules, tests)) ∙
    path_colours _ _
