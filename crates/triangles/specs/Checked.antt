-- What the check of a triangle table answers, and what it leaves in the table of reverses: by 1 and 2 unchanged, by 3 to 8 filled
-- with the mark, done the position of each side's reverse.
use Rattle.std.specs.Prelude.{ℕ, ◌≡◌, List, not, ◌&&◌, length, eqb}
use Rattle.std.specs.Bool.{⊤}
use Rattle.std.specs.declared.result.Result.{Result}
use Rattle.mesh.specs.Limits.{triangles_length}
use Rattle.mesh.specs.Ladder.{first_of}
use Rattle.mesh.specs.Verdict.{table_ladder, sized, TableClear}
use Rattle.tables.specs.declared.refusal.Refusal.{Refusal}
use Rattle.tables.specs.Refusal.{number_met, leaves}
use Rattle.tables.specs.Checked.{twins_of}
use Rattle.triangles.specs.Table.{RightSizes}

-- the number that a table and the room for its reverses meet first, 0 where there is none
unfoldable pub triangles_say : ℕ → List ℕ → List ℕ → ℕ
triangles_say n ts twins =
    first_of (sized n (not (eqb (length ts) (triangles_length n) && eqb (length twins) (triangles_length n))) (table_ladder n ts))

pub record TrianglesChecked (n : ℕ) (ts twins : List ℕ) (r : Result ⊤ Refusal) (twins' : List ℕ) : Type 0 where
  pub answer : number_met r ≡ triangles_say n ts twins
  pub reverses : twins' ≡ leaves (triangles_say n ts twins) (twins_of ts) twins

-- what "done" says
pub record TrianglesDone (n : ℕ) (ts twins twins' : List ℕ) : Type 0 where
  pub sizes : RightSizes n ts twins
  pub clear : TableClear n ts
  pub reverses : twins' ≡ twins_of ts
