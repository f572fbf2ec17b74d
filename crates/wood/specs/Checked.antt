-- What the check of a mesh answers and leaves behind. The numbers are in SPECIFICATION, section 4.
use Rattle.std.specs.Prelude.{ℕ, ◌≡◌, List, Bool, not, ◌&&◌, length, eqb}
use Rattle.mesh.specs.Limits.{InRange, triangles_length, wood_length}
use Rattle.mesh.specs.Ladder.{first_of}
use Rattle.mesh.specs.Verdict.{sized, mesh_ladder, Clear}
use Rattle.std.specs.Bool.{⊤}
use Rattle.std.specs.declared.result.Result.{Result}
use Rattle.tables.specs.declared.refusal.Refusal.{Refusal}
use Rattle.tables.specs.Refusal.{number_met, leaves}
use Rattle.tables.specs.Checked.{twins_of, positions_of}

-- the lengths of the triangles, the wood and the two outputs are those that n asks: one number for each position, one for each edge
abbrev pub lengths_fit : ℕ → ℕ → ℕ → ℕ → ℕ → Bool
lengths_fit n triangles wood twins positions =
    eqb triangles (triangles_length n) && (eqb wood (wood_length n) && (eqb twins (triangles_length n) && eqb positions (wood_length n)))

abbrev pub mesh_lengths : ℕ → List ℕ → List ℕ → List ℕ → List ℕ → Bool
mesh_lengths n ts ws twins positions = lengths_fit n (length ts) (length ws) (length twins) (length positions)

-- what 1 and 2 leave
pub record MeshSizes (n : ℕ) (ts ws twins positions : List ℕ) : Type 0 where
  pub range : InRange n
  pub triangles_length_holds : length ts ≡ triangles_length n
  pub wood_length_holds : length ws ≡ wood_length n
  pub twins_length : length twins ≡ triangles_length n
  pub positions_length : length positions ≡ wood_length n

-- 1, then 2 by the lengths of all four tables, then 3 to 13; 0 where none applies
unfoldable pub mesh_says : ℕ → List ℕ → List ℕ → List ℕ → List ℕ → ℕ
mesh_says n ts ws twins positions = first_of (sized n (not (mesh_lengths n ts ws twins positions)) (mesh_ladder n ts ws))

-- done, the outputs hold the position of each side's reverse and of each edge's side
pub record MeshChecked (n : ℕ) (ts ws twins positions : List ℕ) (r : Result ⊤ Refusal) (twins' positions' : List ℕ) : Type 0 where
  pub answer : number_met r ≡ mesh_says n ts ws twins positions
  pub reverses : twins' ≡ leaves (mesh_says n ts ws twins positions) (twins_of ts) twins
  pub edge_positions : positions' ≡ leaves (mesh_says n ts ws twins positions) (positions_of n ts ws) positions

-- what "done" says
pub record MeshDone (n : ℕ) (ts ws twins' positions' : List ℕ) : Type 0 where
  pub clear : Clear n ts ws
  pub reverses : twins' ≡ twins_of ts
  pub edge_positions : positions' ≡ positions_of n ts ws

-- 3 to 13 together, over tables of the right sizes; where none applies both outputs are filled
pub record MeshJudged (n : ℕ) (ts ws : List ℕ) (r : Result ⊤ Refusal) (twins positions : List ℕ) : Type 0 where
  pub answer : number_met r ≡ first_of (mesh_ladder n ts ws)
  pub reverses : number_met r ≡ 0 → twins ≡ twins_of ts
  pub edge_positions : number_met r ≡ 0 → positions ≡ positions_of n ts ws
