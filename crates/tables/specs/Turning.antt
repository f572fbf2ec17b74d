-- A turn round a vertex by a table of reverses.
use Rattle.std.specs.Prelude.{ℕ, List}
use Rattle.mesh.specs.Limits.{at}
use Rattle.mesh.specs.Sides.{next}

-- the next side round the vertex that the side at p leaves
abbrev pub turn_in_table : List ℕ → ℕ → ℕ
turn_in_table twins p = at twins (next (next p))
