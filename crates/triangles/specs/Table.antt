-- The triangle table on its way through the check: what the sizes leave, and what two stages answer.
use Rattle.std.specs.Prelude.{ℕ, ◌≡◌, List, length}
use Rattle.std.specs.Bool.{⊤}
use Rattle.std.specs.declared.option.Option.{Option}
use Rattle.std.specs.declared.option.Option.TheVariants.{None}
use Rattle.std.specs.declared.result.Result.{Result}
use Rattle.mesh.specs.Search.{lowest}
use Rattle.mesh.specs.Limits.{InRange, triangles_length}
use Rattle.mesh.specs.Sides.{is_side}
use Rattle.mesh.specs.Ladder.{first_of}
use Rattle.mesh.specs.Verdict.{reverse_fault, table_ladder}
use Rattle.tables.specs.declared.refusal.Refusal.{Refusal}
use Rattle.tables.specs.Refusal.{number_met}
use Rattle.tables.specs.Checked.{twins_of}

-- the first position of the side a to b
abbrev pub side_found : List ℕ → ℕ → ℕ → Option ℕ
side_found ts a b = lowest (is_side ts a b) (length ts)

-- what 1 and 2 leave
pub record RightSizes (n : ℕ) (ts twins : List ℕ) : Type 0 where
  pub range : InRange n
  pub triangles_length_holds : length ts ≡ triangles_length n
  pub twins_length : length twins ≡ triangles_length n

-- pairing the sides: the first position whose reverse does not occur; where there is none the reverses are written
pub record Pairing (ts : List ℕ) (r : Option ℕ) (twins : List ℕ) : Type 0 where
  pub position : r ≡ lowest (reverse_fault ts) (length ts)
  pub reverses : r ≡ None → twins ≡ twins_of ts

-- 3 to 8 in order
pub record TableChecked (n : ℕ) (ts : List ℕ) (r : Result ⊤ Refusal) (twins : List ℕ) : Type 0 where
  pub answer : number_met r ≡ first_of (table_ladder n ts)
  pub reverses : number_met r ≡ 0 → twins ≡ twins_of ts
