-- Point: the three coordinates of a vertex among 3n, or its refusal.
use Rattle.std.specs.Prelude.{ℕ, ◌+◌, ◌*◌, List, Bool, cond, not, ◌&&◌, length, get_or, leb, eqb, Float}
use Rattle.std.specs.Float.{nan}
use Rattle.std.specs.Float.Ieee.Scale.{finite}
use Rattle.mesh.specs.Limits.{out_of_range, coordinates_length}

-- coordinate k of vertex v
abbrev pub coordinate : List Float → ℕ → ℕ → Float
coordinate cs v k = get_or cs (3 * v + k) nan

unfoldable pub all_finite : List Float → ℕ → Bool
all_finite cs v = finite (coordinate cs v 0) && (finite (coordinate cs v 1) && finite (coordinate cs v 2))

-- the number that Point meets first, 0 where it answers the three coordinates: 1, 2, 15, 17
unfoldable pub point_refusal : ℕ → List Float → ℕ → ℕ
unfolding out_of_range all_finite
point_refusal n cs v =
    cond (out_of_range n) 1
    (cond (not (eqb (length cs) (coordinates_length n))) 2
    (cond (leb n v) 15 (cond (all_finite cs v) 0 17)))
