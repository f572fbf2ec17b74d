-- The tables of a check, place by place: a table holds what it should at each place, and one of just the right length is the list.
use Prim.Native.Nat.{ℕ, ◌*◌}
use mathlib.Core.Path.{◌≡◌, ap, ◌∙◌}
use mathlib.Core.List.{List}
use lib.ListN.{length}
use Rattle.mesh.specs.Limits.{at, unused_mark}
use Rattle.mesh.specs.Paired.{twin}
use Rattle.mesh.proofs.Lists.{get_d_tabulate, tabulate_is}
use Rattle.tables.specs.Checked.{twins_of, position_of, positions_of, TwinTable, PositionTable}

pub twins_each : (ts : List ℕ) → TwinTable ts (twins_of ts)
unfolding twins_of
twins_each ts p l = get_d_tabulate (twin ts) (length ts) p unused_mark l

pub twins_all : (ts twins : List ℕ) → length twins ≡ length ts → TwinTable ts twins → twins ≡ twins_of ts
unfolding twins_of
twins_all ts twins e h = tabulate_is (twin ts) (length ts) twins unused_mark e h

pub positions_each : (n : ℕ) (ts ws : List ℕ) → PositionTable n ts ws (positions_of n ts ws)
unfolding positions_of
positions_each n ts ws e l = get_d_tabulate (position_of ts ws) (3 * n) e unused_mark l

pub positions_all : (n : ℕ) (ts ws positions : List ℕ) → length positions ≡ 3 * n → PositionTable n ts ws positions → positions ≡ positions_of n ts ws
unfolding positions_of
positions_all n ts ws positions e h = tabulate_is (position_of ts ws) (3 * n) positions unused_mark e h

-- the list of the reverses holds at each place what it should
pub twins_read : (ts twins : List ℕ) → twins ≡ twins_of ts → TwinTable ts twins
twins_read ts twins e p l = ap (λ (t : List ℕ). at t p) e ∙ twins_each ts p l
