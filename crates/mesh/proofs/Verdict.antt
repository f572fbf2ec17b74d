-- The mesh's ladder taken apart: a verdict of 0 is that no fault applies, and back; none of the whole ladder is none of its parts.
use Prim.Native.Nat.{ℕ, ◌-◌, ◌*◌}
use mathlib.Core.Path.{◌≡◌, refl, ◌∙◌}
use mathlib.Core.List.{List, ◌∷◌}
use mathlib.Core.Bool.{Bool, false}
use native.Mathlib.Omega.{arith}
use lib.ListN.{length}
use Rattle.mesh.specs.Limits.{out_of_range, triangles_length}
use Rattle.mesh.specs.Sides.{third}
use Rattle.mesh.specs.Ladder.{Rung, rung, first_of, NoneApplies, past}
use Rattle.mesh.specs.Verdict.{wrong_lengths, table_ladder, wood_ladder, ladder, verdict, TableClear, WoodClear, Clear}
use Rattle.mesh.specs.Paired.{Paired}
use Rattle.mesh.proofs.Paired.{paired}
use Rattle.mesh.proofs.Ladder.{free, none_first, none_both, none_parts, among, proper, first_none}

pub verdict_is : (n : ℕ) (ts ws : List ℕ) → verdict n ts ws ≡ first_of (ladder n ts ws)
unfolding verdict
verdict_is n ts ws = refl

pub verdict_clear : (n : ℕ) (ts ws : List ℕ) → verdict n ts ws ≡ 0 → Clear n ts ws
unfolding verdict among proper
verdict_clear n ts ws e = first_none (ladder n ts ws) refl e

pub clear_verdict : (n : ℕ) (ts ws : List ℕ) → Clear n ts ws → verdict n ts ws ≡ 0
unfolding verdict
clear_verdict n ts ws c = none_first c

-- what lies below two rungs, as 1 and 2 are
pub below_sizes : {k m : ℕ} {a b : Bool} {rest : List Rung} → NoneApplies (rung k a ∷ rung m b ∷ rest) → NoneApplies rest
below_sizes (past e (past f h)) = h

pub table_part : (n : ℕ) (ts ws : List ℕ) → Clear n ts ws → TableClear n ts
table_part n ts ws c = (none_parts (table_ladder n ts) (wood_ladder n (third ts) ws) (below_sizes c)).0

pub wood_part : (n : ℕ) (ts ws : List ℕ) → Clear n ts ws → WoodClear n (third ts) ws
wood_part n ts ws c = (none_parts (table_ladder n ts) (wood_ladder n (third ts) ws) (below_sizes c)).1

pub clear_of : (n : ℕ) (ts ws : List ℕ) → out_of_range n ≡ false → wrong_lengths n ts ws ≡ false → TableClear n ts → WoodClear n (third ts) ws → Clear n ts ws
clear_of n ts ws a b t w = past a (past b (none_both t w))

-- with the right length, 3 to 6 leave sides in pairs
pub table_paired : (n : ℕ) (ts : List ℕ) → length ts ≡ triangles_length n → TableClear n ts → Paired n ts
table_paired n ts e T = paired n (2 * n - 4) ts (e ∙ omega arith) (free T 3) (free T 4) (free T 5) (free T 6)
