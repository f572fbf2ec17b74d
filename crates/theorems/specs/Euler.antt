-- Euler's count for an accepted mesh: vertices and triangles are two more than edges, and all hangs together.
use Rattle.std.specs.Prelude.{ℕ, ◌+◌, ◌-◌, ◌*◌, ◌<◌, ◌≡◌, List, length, ltb}
use Rattle.mesh.specs.Search.{count}
use Rattle.mesh.specs.Sides.{from, to}
use Rattle.mesh.specs.Wood.{is_edge}
use Rattle.mesh.specs.Mesh.{Side, Edge, Joins, Reached}

pub record Euler (n : ℕ) (ts ws : List ℕ) : Type 0 where
  -- of n alone: so many indices below 3n are used
  pub edges : count (is_edge n) (3 * n) ≡ 3 * n - 6
  -- pairs of neighbours, each counted at the side that goes up; its reverse goes down
  pub pairs : count (λ p. ltb (from ts p) (to ts p)) (length ts) ≡ 3 * n - 6
  -- each pair of neighbours is joined by an edge
  pub carried : (a b : ℕ) → Side ts a b → (e : ℕ) × Edge n e × Joins ws e a b
  -- number 2's length, as a count of triangles
  pub triangles : length ts ≡ 3 * (2 * n - 4)
  -- arithmetic in n alone: with the counts above, vertices and triangles are two more than edges
  pub count_is : n + (2 * n - 4) ≡ (3 * n - 6) + 2
  -- all vertices are reached, so the two is the count of one sphere
  pub reached : (v : ℕ) → v < n → Reached ts v
