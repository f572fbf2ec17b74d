-- The turn rule by the three sectors of a turn round an inner vertex.
use Rattle.std.specs.Prelude.{ℕ, suc, ◌+◌, ◌%◌, List, Bool, false, not, ◌||◌, eqb}
use Rattle.std.specs.declared.option.Option.{Option}
use Rattle.std.specs.declared.option.Option.TheVariants.{Some, None}
use Rattle.mesh.specs.Search.{every, iterate}
use Rattle.mesh.specs.Sides.{turn_length}
use Rattle.mesh.specs.Wood.{Label, out, into, bare, label_of}

-- the sector of a turn that a label is in: out c begins sector c, into c+2 goes on in it; a bare label is in none
abbrev pub sector_of : Label → Option ℕ
sector_of (out c) = Some c
sector_of (into c) = Some ((c + 1) % 3)
sector_of bare = None

-- what may come next in sector c: into c+2 goes on, out c+1 begins the sector after it
abbrev pub may_follow : ℕ → Label → Bool
may_follow c (out d) = eqb d ((c + 1) % 3)
may_follow c (into d) = eqb d ((c + 2) % 3)
may_follow c bare = false

-- the turn rule at a label and the next one, as far as it is sector c's
abbrev pub in_sector : ℕ → Label → Option ℕ → Bool
in_sector c m (Some s) = not (eqb s c) || may_follow c m
in_sector c m None = false

abbrev pub sector_step : ℕ → Label → Label → Bool
sector_step c l m = in_sector c m (sector_of l)

-- the label i steps on round v from its neighbour a
abbrev pub label_round : (ℕ → ℕ → ℕ) → List ℕ → ℕ → ℕ → ℕ → Label
label_round x ws v a i = label_of ws v (iterate (x v) i a)

-- one whole turn round v from its neighbour a keeps sector c's part of the rule
unfoldable pub sector_holds : ℕ → (ℕ → ℕ → ℕ) → List ℕ → ℕ → ℕ → ℕ → Bool
sector_holds n x ws v a c = every (λ i. sector_step c (label_round x ws v a i) (label_round x ws v a (suc i))) (turn_length n x v a)
