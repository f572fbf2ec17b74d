-- Sides in pairs: what numbers 3 to 6 leave of a table. Each side has its reverse, so one can turn round the vertex that a side leaves.
use Rattle.std.specs.Prelude.{ℕ, ◌*◌, ◌<◌, ◌≡◌, List, ◌≢◌, length}
use Rattle.mesh.specs.Sides.{next, from, to, side_at}

-- the position of the reverse of the side at p
unfoldable pub twin : List ℕ → ℕ → ℕ
twin ts p = side_at ts (to ts p) (from ts p)

-- the next side round the vertex that the side at p leaves, counterclockwise; the one before
unfoldable pub turn : List ℕ → ℕ → ℕ
turn ts p = twin ts (next (next p))

unfoldable pub turn_back : List ℕ → ℕ → ℕ
turn_back ts p = next (twin ts p)

pub record Paired (n : ℕ) (ts : List ℕ) : Type 0 where
  pub many : ℕ
  pub whole : length ts ≡ 3 * many
  pub corner : (p : ℕ) → p < length ts → from ts p < n
  pub differ : (p : ℕ) → p < length ts → from ts p ≢ to ts p
  pub once : (p : ℕ) → p < length ts → side_at ts (from ts p) (to ts p) ≡ p
  pub twin_in : (p : ℕ) → p < length ts → twin ts p < length ts
