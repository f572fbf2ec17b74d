-- The triangle table, flat: position 3t + k holds corner k of triangle t, and stands for the directed side from it to the next corner.
use Rattle.std.specs.Prelude.{ℕ, ◌+◌, ◌*◌, ◌/◌, ◌%◌, List, Bool, cond, ◌&&◌, length, ltb, eqb}
use Rattle.mesh.specs.Search.{first, some, count, iterate}
use Rattle.mesh.specs.Limits.{at, unused_mark}

-- the position of the next corner of the same triangle
unfoldable pub next : ℕ → ℕ
next p = 3 * (p / 3) + (p + 1) % 3

-- where the side at p starts and ends: sides follow the corners round
abbrev pub from : List ℕ → ℕ → ℕ
from ts p = at ts p

abbrev pub to : List ℕ → ℕ → ℕ
to ts p = at ts (next p)

abbrev pub is_side : List ℕ → ℕ → ℕ → ℕ → Bool
is_side ts a b p = eqb (from ts p) a && eqb (to ts p) b

-- the first position of the directed side a to b; the table's length where it does not occur
unfoldable pub side_at : List ℕ → ℕ → ℕ → ℕ
side_at ts a b = first (is_side ts a b) (length ts)

-- the third corner of the triangle with side a to b; the mark where there is none.
-- So third ts v x is the neighbour that comes after x round v
unfoldable pub third : List ℕ → ℕ → ℕ → ℕ
third ts a b = let p = side_at ts a b in cond (ltb p (length ts)) (at ts (next (next p))) unused_mark

-- What follows is said of any function x of third corners, so that it depends on a table through them alone.

-- b is a neighbour of v: some triangle has the side v to b
abbrev pub is_neighbour : ℕ → (ℕ → ℕ → ℕ) → ℕ → ℕ → Bool
is_neighbour n x v b = ltb (x v b) n

-- how many neighbours v has
unfoldable pub neighbours : ℕ → (ℕ → ℕ → ℕ) → ℕ → ℕ
neighbours n x v = count (is_neighbour n x v) n

unfoldable pub first_neighbour : ℕ → (ℕ → ℕ → ℕ) → ℕ → ℕ
first_neighbour n x v = first (is_neighbour n x v) n

-- a turn round v from its first neighbour meets b
unfoldable pub meets : ℕ → (ℕ → ℕ → ℕ) → ℕ → ℕ → Bool
meets n x v b = some (λ k. eqb (iterate (x v) k (first_neighbour n x v)) b) n

-- how many neighbours one turn round v meets that starts at its neighbour a
unfoldable pub turn_length : ℕ → (ℕ → ℕ → ℕ) → ℕ → ℕ → ℕ
turn_length n x v a = 1 + first (λ i. eqb (iterate (x v) (1 + i) a) a) n
