-- One turn round a vertex, as number 8's check takes it: how many sides leave a vertex, and whether a turn from one of them is back
-- before it met as many.
use Rattle.std.specs.Prelude.{ℕ, ◌+◌, ◌-◌, ◌<◌, ◌≡◌, List, Bool, ◌||◌, length, get_or, eqb}
use Rattle.mesh.specs.Search.{some, count, iterate}
use Rattle.mesh.specs.Sides.{from}
use Rattle.tables.specs.Turning.{turn_in_table}
use Rattle.triangles.specs.declared.round.Spokes.{Spokes}

-- the side at p leaves v
abbrev pub is_from : List ℕ → ℕ → ℕ → Bool
is_from ts v p = eqb (from ts p) v

-- how many sides leave v
abbrev pub degree : List ℕ → ℕ → ℕ
degree ts v = count (is_from ts v) (length ts)

-- going on by f from p one is back at p in fewer than d steps
unfoldable pub back_early : (ℕ → ℕ) → ℕ → ℕ → Bool
back_early f p d = some (λ i. eqb (iterate f (1 + i) p) p) (d - 1)

-- no side, or a turn from p that does not meet d of them
abbrev pub turn_broken : List ℕ → ℕ → ℕ → Bool
turn_broken twins p d = eqb d 0 || back_early (turn_in_table twins) p d

-- what stands at v
abbrev pub spokes_at : List Spokes → ℕ → Spokes
spokes_at spokes v = get_or spokes v (record { start = 0; degree = 0 })

-- after the sides below m: how many leave each vertex, and one that does where there is one
pub record Tally (ts : List ℕ) (m : ℕ) (spokes : List Spokes) : Type 0 where
  pub counted : (v : ℕ) → v < length spokes → (spokes_at spokes v).degree ≡ count (is_from ts v) m
  pub start : (v : ℕ) → v < length spokes → 0 < count (is_from ts v) m → ((spokes_at spokes v).start < m) × (from ts (spokes_at spokes v).start ≡ v)

-- there is a place for each corner, and nothing is counted yet
pub record Untallied (ts : List ℕ) (spokes : List Spokes) : Type 0 where
  pub room : (p : ℕ) → p < length ts → from ts p < length spokes
  pub none_yet : (v : ℕ) → v < length spokes → (spokes_at spokes v).degree ≡ 0
