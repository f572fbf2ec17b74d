-- The two tables that a check leaves behind: the position of each side's reverse, and the position of each edge's side.
use Rattle.std.specs.Prelude.{ℕ, ◌*◌, ◌<◌, ◌≡◌, List, cond, length, ltb}
use Rattle.mesh.specs.Search.{tabulate}
use Rattle.mesh.specs.Limits.{InRange, at, unused_mark, triangles_length}
use Rattle.mesh.specs.Sides.{side_at}
use Rattle.mesh.specs.Paired.{twin, Paired}
use Rattle.mesh.specs.Wood.{source, target}

-- the position of the reverse of each side
unfoldable pub twins_of : List ℕ → List ℕ
twins_of ts = tabulate (twin ts) (length ts)

-- the position of the side that edge e runs along; the mark where there is none
unfoldable pub position_of : List ℕ → List ℕ → ℕ → ℕ
position_of ts ws e = let p = side_at ts (source e) (target ws e) in cond (ltb p (length ts)) p unused_mark

unfoldable pub positions_of : ℕ → List ℕ → List ℕ → List ℕ
positions_of n ts ws = tabulate (position_of ts ws) (3 * n)

-- the same, place by place, of tables that may be longer
abbrev pub TwinTable : List ℕ → List ℕ → Type 0
TwinTable ts twins = (p : ℕ) → p < length ts → at twins p ≡ twin ts p

abbrev pub PositionTable : ℕ → List ℕ → List ℕ → List ℕ → Type 0
PositionTable n ts ws positions = (e : ℕ) → e < 3 * n → at positions e ≡ position_of ts ws e

-- the sizes are right and sides come in pairs: what 1 to 6 leave
pub record Meshed (n : ℕ) (ts : List ℕ) : Type 0 where
  pub range : InRange n
  pub triangles_length_holds : length ts ≡ triangles_length n
  pub paired : Paired n ts

-- and both tables are filled
pub record Filled (n : ℕ) (ts ws twins positions : List ℕ) : Type 0 where
  pub meshed : Meshed n ts
  pub twin_table : TwinTable ts twins
  pub position_table : PositionTable n ts ws positions
