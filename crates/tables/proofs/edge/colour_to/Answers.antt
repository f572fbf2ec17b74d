-- `colour_to` searches the three edges that leave a.
use Rattle.std.proofs.Common.{rules, tests, refl, eqb, ◌+◌, ◌*◌}
use Rattle.mesh.specs.Wood.{target}
use Rattle.mesh.proofs.Ranges.{lowest_from_find}
use native.Mathlib.Omega.{arith}
use Rattle.tables.proofs.edge.colour_to.Goals as goal

pub returns : goal.returns
returns c =
    let s = c.args in
    lowest_from_find (λ k. eqb (target s.ws.now (3 * s.a + k)) s.b) 0 3 (λ k l. absurd (omega arith)) _ _ _ c.find.ensures.ran refl
    (λ x b q k. search (rules, tests))
