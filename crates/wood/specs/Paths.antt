-- The path rule for one colour, and the marks that the walks along it leave.
use Rattle.std.specs.Prelude.{ℕ, ◌+◌, ◌*◌, ◌≤◌, ◌<◌, ◌≡◌, List, Bool, true, not, ◌&&◌, length, get_or, leb, eqb}
use Rattle.std.specs.declared.option.Option.{Option}
use Rattle.std.specs.declared.option.Option.TheVariants.{Some, None}
use Rattle.mesh.specs.Search.{iterate}
use Rattle.mesh.specs.Wood.{target, along}

-- the edges of inner vertices end at vertices
abbrev pub Inside : ℕ → List ℕ → Type 0
Inside n ws = (e : ℕ) → 9 ≤ e → e < 3 * n → target ws e < n

-- the path rule for one colour, at vertex v
abbrev pub colour_fault : ℕ → List ℕ → ℕ → ℕ → Bool
colour_fault n ws c v = leb 3 v && not (eqb (iterate (along ws c) n v) c)

-- only walks from vertices below v have left marks, and from each marked vertex colour c ends at its anchor
pub record Marked (n : ℕ) (ws : List ℕ) (c v : ℕ) (marks : List (Option ℕ)) : Type 0 where
  pub room : n ≤ length marks
  pub earlier : (w m : ℕ) → w < n → get_or marks w None ≡ Some m → m < v
  pub ends : (w m : ℕ) → w < n → get_or marks w None ≡ Some m → iterate (along ws c) n w ≡ c

-- the walk from v: whether it ends at the anchor; where it does its marks are right as well
pub record Walked (n : ℕ) (ws : List ℕ) (c v : ℕ) (r : Bool) (marks : List (Option ℕ)) : Type 0 where
  pub answer : r ≡ eqb (iterate (along ws c) n v) c
  pub marked : r ≡ true → Marked n ws c (v + 1) marks
