-- `broken_vertex` is a search over the inner vertices: an anchor has no turn rule.
use Rattle.std.proofs.Common.{rules, tests, refl}
use Rattle.mesh.specs.Sides.{third}
use Rattle.mesh.specs.Verdict.{turn_rule_fault}
use Rattle.mesh.proofs.Ranges.{lowest_from_find}
use Rattle.wood.proofs.VertexLaws.{anchor_turn}
use Rattle.wood.proofs.round.Joined.broken_vertex.Goals as goal

pub returns : goal.returns
returns c =
    let m = c.args.self.now.mesh in
    lowest_from_find (turn_rule_fault m.size.vertices (third m.triangles.now) m.wood.now) 3 m.size.vertices (anchor_turn _ _ _) _ _ _
    c.find.ensures.ran refl (λ x b q k. search (rules, tests))
