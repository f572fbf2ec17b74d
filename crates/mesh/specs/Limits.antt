-- The numbers that are fixed, each named once, and the reading of a table. Every other limit is derived from these by name.
use Rattle.std.specs.Prelude.{ℕ, ◌-◌, ◌*◌, ◌≤◌, List, Bool, ◌||◌, get_or, ltb}

-- how many vertices a mesh has
abbrev pub fewest_vertices : ℕ
fewest_vertices = 3

abbrev pub most_vertices : ℕ
most_vertices = 1024

-- what unused indices and places hold
abbrev pub unused_mark : ℕ
unused_mark = 65535

-- the highest service byte that is not torn: all bits that have a meaning are set
abbrev pub most_service : ℕ
most_service = 3

-- what stands at place i of a table; past its end the mark
abbrev pub at : List ℕ → ℕ → ℕ
at table i = get_or table i unused_mark

-- the lengths that n asks: 2n-4 triangles of three corners, 3n targets, 6n references, 3n service bytes, 3n coordinates
abbrev pub triangles_length : ℕ → ℕ
triangles_length n = 6 * n - 12

abbrev pub wood_length : ℕ → ℕ
wood_length n = 3 * n

abbrev pub references_length : ℕ → ℕ
references_length n = 6 * n

abbrev pub service_length : ℕ → ℕ
service_length n = 3 * n

abbrev pub coordinates_length : ℕ → ℕ
coordinates_length n = 3 * n

-- number 1: too few or too many vertices
unfoldable pub out_of_range : ℕ → Bool
out_of_range n = ltb n fewest_vertices || ltb most_vertices n

-- what number 1 leaves
pub record InRange (n : ℕ) : Type 0 where
  pub enough : fewest_vertices ≤ n
  pub not_too_many : n ≤ most_vertices
