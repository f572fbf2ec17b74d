-- A planar triangulation with a Schnyder wood, sentence by sentence, with no search and no test: what an accepted mesh is. That
-- `verdict` is 0 exactly for these is a theorem, and so is that each number is met for want of its own sentence.
use Rattle.std.specs.Prelude.{ℕ, ◌*◌, ◌≤◌, ◌<◌, ◌≡◌, List, [], ◌∷◌, ◌++◌, ◌≢◌, ◌⊎◌, length}
use Rattle.mesh.specs.Limits.{at, fewest_vertices, most_vertices, triangles_length, wood_length}
use Rattle.mesh.specs.Sides.{next, from, to}
use Rattle.mesh.specs.Wood.{source, colour, target, edge_of, anchor_targets}

-- the table has the triangle (a,b,c), turned so that a comes first
pub record Triangle (ts : List ℕ) (a b c : ℕ) : Type 0 where
  pub position : ℕ
  pub within : position < length ts
  pub first_is : at ts position ≡ a
  pub second_is : at ts (next position) ≡ b
  pub third_is : at ts (next (next position)) ≡ c

-- some triangle has the directed side a to b
pub record Side (ts : List ℕ) (a b : ℕ) : Type 0 where
  pub position : ℕ
  pub within : position < length ts
  pub starts : from ts position ≡ a
  pub ends : to ts position ≡ b

-- turning round v from its neighbour x one comes to its neighbour y
pub data Round (ts : List ℕ) (v : ℕ) : ℕ → ℕ → Type 0 where
  here : {x : ℕ} → Round ts v x x
  onward : {x y z : ℕ} → Triangle ts v x y → Round ts v y z → Round ts v x z

-- vertices reached from 0 along sides
pub data Reached (ts : List ℕ) : ℕ → Type 0 where
  start : Reached ts 0
  along_side : {a b : ℕ} → Reached ts a → Side ts a b → Reached ts b

-- e is an edge: index 3, 6 or 7, or one of an inner vertex
abbrev pub Edge : ℕ → ℕ → Type 0
Edge n e = (e < 3 * n) × ((e ≡ 3) ⊎ ((e ≡ 6) ⊎ ((e ≡ 7) ⊎ (9 ≤ e))))

-- e joins a and b, whichever way it runs
abbrev pub Joins : List ℕ → ℕ → ℕ → ℕ → Type 0
Joins ws e a b = ((source e ≡ a) × (target ws e ≡ b)) ⊎ ((source e ≡ b) × (target ws e ≡ a))

-- following colour c from v one comes to a; the path ends at the first anchor
pub data Path (ws : List ℕ) (c : ℕ) : ℕ → ℕ → Type 0 where
  arrived : {a : ℕ} → a < 3 → Path ws c a a
  step : {v a : ℕ} → 3 ≤ v → Path ws c (target ws (edge_of v c)) a → Path ws c v a

-- neighbours of v one after the other round it, from x over xs to z
abbrev pub Linked : List ℕ → ℕ → ℕ → List ℕ → ℕ → Type 0
Linked ts v x [] z = Triangle ts v x z
Linked ts v x (y ∷ ys) z = Triangle ts v x y × Linked ts v y ys z

abbrev pub Apart : ℕ → List ℕ → Type 0
Apart x [] = Unit {0}
Apart x (y ∷ ys) = (x ≢ y) × Apart x ys

-- none is there twice
abbrev pub Once : List ℕ → Type 0
Once [] = Unit {0}
Once (x ∷ xs) = Apart x xs × Once xs

-- each of them has its edge of colour c into v
abbrev pub AllInto : List ℕ → ℕ → ℕ → List ℕ → Type 0
AllInto ws v c [] = Unit {0}
AllInto ws v c (x ∷ xs) = (target ws (edge_of x c) ≡ v) × AllInto ws v c xs

-- one whole turn round v from the target of its edge of colour 0: the neighbours whose edge of colour 2 ends at v, the target of
-- colour 1, those whose edge of colour 0 ends at v, the target of colour 2, those whose edge of colour 1 ends at v
pub record TurnRule (ts ws : List ℕ) (v : ℕ) : Type 0 where
  pub in2 : List ℕ
  pub in0 : List ℕ
  pub in1 : List ℕ
  pub turn : Linked ts v (target ws (edge_of v 0)) (in2 ++ target ws (edge_of v 1) ∷ in0 ++ target ws (edge_of v 2) ∷ in1) (target ws (edge_of v 0))
  pub one_turn : Once (target ws (edge_of v 0) ∷ in2 ++ target ws (edge_of v 1) ∷ in0 ++ target ws (edge_of v 2) ∷ in1)
  pub all_in2 : AllInto ws v 2 in2
  pub all_in0 : AllInto ws v 0 in0
  pub all_in1 : AllInto ws v 1 in1

-- The sentences, by the number that is met where they fail.

-- 3, 4: three different corners below n
abbrev pub CornersBelow : ℕ → List ℕ → Type 0
CornersBelow n ts = (p : ℕ) → p < length ts → from ts p < n

abbrev pub CornersDiffer : List ℕ → Type 0
CornersDiffer ts = (p : ℕ) → p < length ts → from ts p ≢ to ts p

-- 5, 6: each directed side once, and its reverse
abbrev pub SidesOnce : List ℕ → Type 0
SidesOnce ts = (p q : ℕ) → p < length ts → q < length ts → from ts p ≡ from ts q → to ts p ≡ to ts q → p ≡ q

abbrev pub SidesReversed : List ℕ → Type 0
SidesReversed ts = (a b : ℕ) → Side ts a b → Side ts b a

-- 7: the outer triangle
abbrev pub OuterTriangle : List ℕ → Type 0
OuterTriangle ts = Triangle ts 0 2 1

-- 8: each vertex has a triangle, and a turn round it meets them all
abbrev pub InTriangles : ℕ → List ℕ → Type 0
InTriangles n ts = (v : ℕ) → v < n → (b : ℕ) × Side ts v b

abbrev pub OneTurn : List ℕ → Type 0
OneTurn ts = (v a b : ℕ) → Side ts v a → Side ts v b → Round ts v a b

-- 9: the wood's indices 0 to 8, and its targets
abbrev pub AnchorEdges : List ℕ → Type 0
AnchorEdges ws = (i : ℕ) → i < 9 → target ws i ≡ at anchor_targets i

abbrev pub TargetsBelow : ℕ → List ℕ → Type 0
TargetsBelow n ws = (e : ℕ) → 9 ≤ e → e < 3 * n → target ws e < n

-- 10: an edge joins two neighbours, and no two edges the same pair
abbrev pub EdgesJoin : ℕ → List ℕ → List ℕ → Type 0
EdgesJoin n ts ws = (e : ℕ) → Edge n e → Side ts (source e) (target ws e)

abbrev pub PairsOnce : ℕ → List ℕ → Type 0
PairsOnce n ws = (d e a b : ℕ) → Edge n d → Edge n e → Joins ws d a b → Joins ws e a b → d ≡ e

-- 11, 12, 13: the anchor rule, the turn rule, the path rule
abbrev pub AnchorRule : ℕ → List ℕ → Type 0
AnchorRule n ws = (e : ℕ) → 9 ≤ e → e < 3 * n → target ws e < 3 → colour e ≡ target ws e

abbrev pub TurnRules : ℕ → List ℕ → List ℕ → Type 0
TurnRules n ts ws = (v : ℕ) → 3 ≤ v → v < n → TurnRule ts ws v

abbrev pub PathRules : ℕ → List ℕ → Type 0
PathRules n ws = (v c : ℕ) → 3 ≤ v → v < n → c < 3 → Path ws c v c

pub record Mesh (n : ℕ) (ts ws : List ℕ) : Type 0 where
  -- 1, 2: the sizes
  pub enough : fewest_vertices ≤ n
  pub not_too_many : n ≤ most_vertices
  pub triangles_length_holds : length ts ≡ triangles_length n
  pub wood_length_holds : length ws ≡ wood_length n
  -- 3 to 8: the triangles
  pub corners : CornersBelow n ts
  pub corners_differ : CornersDiffer ts
  pub side_once : SidesOnce ts
  pub reverse : SidesReversed ts
  pub outer : OuterTriangle ts
  pub in_triangle : InTriangles n ts
  pub one_turn : OneTurn ts
  -- 9 to 13: the wood
  pub anchor_edges : AnchorEdges ws
  pub targets : TargetsBelow n ws
  pub joins : EdgesJoin n ts ws
  pub pair_once : PairsOnce n ws
  pub anchor_rule : AnchorRule n ws
  pub turn_rule_holds : TurnRules n ts ws
  pub path_rule : PathRules n ws
  -- every vertex is reached from 0 along sides: no number is met for want of it, since the path rule gives it
  pub reach : (v : ℕ) → v < n → Reached ts v
