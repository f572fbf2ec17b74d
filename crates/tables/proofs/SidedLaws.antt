-- A mesh whose sides come in pairs: what 1 to 6 leave, from 3 to 8 not applying; and with both tables filled.
use Prim.Native.Nat.{ℕ}
use mathlib.Core.Path.{◌≡◌, refl}
use mathlib.Core.List.{List}
use lib.ListN.{length}
use Rattle.mesh.specs.Limits.{InRange, triangles_length}
use Rattle.mesh.specs.Ladder.{first_of}
use Rattle.mesh.specs.Verdict.{table_ladder}
use Rattle.mesh.proofs.Ladder.{first_none, among, proper}
use Rattle.mesh.proofs.Verdict.{table_paired}
use Rattle.tables.specs.declared.sided.Sided.{Sided}
use Rattle.tables.specs.Checked.{Meshed, Filled}

pub clear_meshed : (n : ℕ) (ts : List ℕ) → InRange n → length ts ≡ triangles_length n → first_of (table_ladder n ts) ≡ 0 → Meshed n ts
unfolding among proper
clear_meshed n ts r e z =
    record { range = r; triangles_length_holds = e; paired = table_paired n ts e (first_none (table_ladder n ts) refl z) }

module _ (m : Sided) where
  pub meshed : Meshed m.size.vertices m.triangles.now
  meshed = clear_meshed _ _ m.size.in_range m.whole m.clear

  pub filled : Filled m.size.vertices m.triangles.now m.wood.now m.twins.now m.positions.now
  filled = record { meshed = meshed; twin_table = m.twin_table; position_table = m.position_table }
