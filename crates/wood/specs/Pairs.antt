-- Two edges that join the same pair.
use Rattle.std.specs.Prelude.{ℕ, List, Bool, ◌&&◌, ltb}
use Rattle.mesh.specs.Wood.{used, same_pair}

-- edge d is one lower than e, and joins the same pair
abbrev pub joins_before : List ℕ → ℕ → ℕ → Bool
joins_before ws d e = ltb d e && (used d && same_pair ws d e)
