-- The table of the edges' positions, on the way.
use Rattle.std.specs.Prelude.{ℕ, ◌≡◌, List, cond, length}
use Rattle.mesh.specs.Limits.{at}
use Rattle.mesh.specs.Sides.{is_side}
use Rattle.mesh.specs.Wood.{source, target}

-- the positions after the side at p: it is the position of each edge that runs along it
pub record SidePositioned (ts ws : List ℕ) (p : ℕ) (before after : List ℕ) : Type 0 where
  pub same_length : length after ≡ length before
  pub each : (e : ℕ) → at after e ≡ cond (is_side ts (source e) (target ws e) p) p (at before e)
