-- A triangle of the flat table as one value of three corners.
use Rattle.std.specs.Prelude.{ℕ, ◌+◌, ◌*◌, List, [], ◌∷◌}
use Rattle.mesh.specs.Limits.{at}

-- the corners of triangle t
abbrev pub corners_of : List ℕ → ℕ → List ℕ
corners_of ts t = at ts (3 * t) ∷ at ts (3 * t + 1) ∷ at ts (3 * t + 2) ∷ []
