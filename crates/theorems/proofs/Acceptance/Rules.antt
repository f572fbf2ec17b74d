-- Numbers 12 and 13, each with the rule that it is met for want of: the fault is absent exactly when the rule holds at every inner
-- vertex. 12 needs what 3 to 6, 9 and 10 leave, so that labels are the edges that they stand for; 13 needs that targets are vertices.
use Prim.Native.Nat.{ℕ, ◌≤◌, ◌<◌}
use mathlib.Core.Path.{◌≡◌, subst}
use mathlib.Core.List.{List}
use mathlib.Core.Bool.{false}
use mathlib.Core.Logic.{◌↔◌, inr}
use native.Mathlib.Omega.{arith}
use lib.ListN.{length}
use Rattle.mesh.specs.Search.{some}
use Rattle.mesh.specs.Limits.{most_vertices, wood_length}
use Rattle.mesh.specs.Sides.{third}
use Rattle.mesh.specs.Paired.{Paired}
use Rattle.mesh.specs.Wood.{source, target, edge_of}
use Rattle.mesh.specs.Verdict.{turn_rule_fault, path_fault}
use Rattle.mesh.specs.Mesh.{Side, Edge, AnchorEdges, TargetsBelow, EdgesJoin, PairsOnce, TurnRules, PathRules}
use Rattle.theorems.proofs.Acceptance.Turns.{rule_parts, parts_keep, turn_kept, turns_right}
use Rattle.theorems.proofs.Acceptance.Labels.{is_out, is_into}
use Rattle.theorems.proofs.Acceptance.Paths.{paths_ruled, paths_right}

module _ (n : ℕ) (ts ws : List ℕ) (P : Paired n ts) (few : n ≤ most_vertices) (long : length ws ≡ wood_length n)
    (anchors : AnchorEdges ws) (joins : EdgesJoin n ts ws) (once : PairsOnce n ws) where
  -- the side of an inner vertex's edge of colour 0
  first_side : (v : ℕ) → 3 ≤ v → v < n → Side ts v (target ws (edge_of v 0))
  first_side v h l =
      let x : source (edge_of v 0) ≡ v = omega arith in
      let e : Edge n (edge_of v 0) = (omega arith, inr (inr (inr (omega arith)))) in
      subst (λ y. Side ts y (target ws (edge_of v 0))) x (joins (edge_of v 0) e)

  pub tied_12 : (some (turn_rule_fault n (third ts) ws) n ≡ false) ↔ TurnRules n ts ws
  tied_12 = (
    λ e v h l. rule_parts n ts ws P v (first_side v h l) (turn_kept n ts ws e v h l),
    λ rule. turns_right n ts ws
        (λ v h l. parts_keep n ts ws P v (first_side v h l) (is_out n ts ws few long anchors P.differ joins once v h l)
        (is_into n ts ws few long anchors P.differ joins once v h l) (rule v h l)),
  )

pub tied_13 : (n : ℕ) (ws : List ℕ) → TargetsBelow n ws → (some (path_fault n ws) n ≡ false) ↔ PathRules n ws
tied_13 n ws targets = (paths_ruled n ws, paths_right n ws targets)
