-- What each number is met for want of. Given that no number before it applies, its fault is absent exactly when the sentences of `Mesh`
-- that it stands for hold. Taken alone a fault may say something else: where a side occurs twice, 7 may apply although the outer
-- triangle is in the table.
use Rattle.std.specs.Prelude.{ℕ, ◌≡◌, List, false, ◌↔◌, length}
use Rattle.mesh.specs.Limits.{InRange, triangles_length, wood_length}
use Rattle.mesh.specs.Ladder.{NoneBefore}
use Rattle.mesh.specs.Verdict.{ladder}
use Rattle.mesh.specs.Mesh.{CornersBelow, CornersDiffer, SidesOnce, SidesReversed, OuterTriangle, InTriangles, OneTurn, AnchorEdges, TargetsBelow, EdgesJoin, PairsOnce, AnchorRule, TurnRules, PathRules}
use Rattle.theorems.specs.Faults.{fault}

-- number k stands for that sentence
abbrev pub StandsFor : ℕ → ℕ → List ℕ → List ℕ → Type 0 → Type 0
StandsFor k n ts ws sentence = NoneBefore k (ladder n ts ws) → (fault k n ts ws ≡ false) ↔ sentence

pub record Numbers (n : ℕ) (ts ws : List ℕ) : Type 0 where
  pub one : StandsFor 1 n ts ws (InRange n)
  pub two : StandsFor 2 n ts ws ((length ts ≡ triangles_length n) × (length ws ≡ wood_length n))
  pub three : StandsFor 3 n ts ws (CornersBelow n ts)
  pub four : StandsFor 4 n ts ws (CornersDiffer ts)
  pub five : StandsFor 5 n ts ws (SidesOnce ts)
  pub six : StandsFor 6 n ts ws (SidesReversed ts)
  pub seven : StandsFor 7 n ts ws (OuterTriangle ts)
  pub eight : StandsFor 8 n ts ws (InTriangles n ts × OneTurn ts)
  pub nine : StandsFor 9 n ts ws (AnchorEdges ws × TargetsBelow n ws)
  pub ten : StandsFor 10 n ts ws (EdgesJoin n ts ws × PairsOnce n ws)
  pub eleven : StandsFor 11 n ts ws (AnchorRule n ws)
  pub twelve : StandsFor 12 n ts ws (TurnRules n ts ws)
  pub thirteen : StandsFor 13 n ts ws (PathRules n ws)
