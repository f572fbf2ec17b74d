-- What a rebuild answers and leaves in the two buffers that it is lent.
use Rattle.std.specs.Prelude.{ℕ, ◌≡◌, List, [], ◌∷◌, Bool, not, ◌&&◌, length, eqb}
use Rattle.std.specs.Bool.{⊤}
use Rattle.std.specs.declared.result.Result.{Result}
use Rattle.mesh.specs.Limits.{triangles_length, wood_length, references_length}
use Rattle.mesh.specs.Ladder.{rung, first_of}
use Rattle.mesh.specs.Verdict.{sized}
use Rattle.mesh.specs.Rebuild.{rebuild_says, rebuilt_wood, rebuilt_triangles}
use Rattle.tables.specs.declared.refusal.Refusal.{Refusal}
use Rattle.tables.specs.Refusal.{number_met, leaves}

-- the three tables have exactly the lengths that n asks
unfoldable pub rebuild_lengths : ℕ → List ℕ → List ℕ → List ℕ → Bool
rebuild_lengths n refs ws ts =
    eqb (length refs) (references_length n) && (eqb (length ws) (wood_length n) && eqb (length ts) (triangles_length n))

-- 1, 2 by the lengths of all three tables, 18; 0 where the mesh is rebuilt
unfoldable pub rebuild_number : ℕ → List ℕ → List ℕ → List ℕ → ℕ
rebuild_number n refs ws ts = first_of (sized n (not (rebuild_lengths n refs ws ts)) (rung 18 (eqb (rebuild_says n refs) 18) ∷ []))

pub record Rebuild (n : ℕ) (refs ws ts : List ℕ) (r : Result ⊤ Refusal) (ws' ts' : List ℕ) : Type 0 where
  pub answer : number_met r ≡ rebuild_number n refs ws ts
  pub wood : ws' ≡ leaves (rebuild_number n refs ws ts) (rebuilt_wood n refs) ws
  pub triangles : ts' ≡ leaves (rebuild_number n refs ws ts) (rebuilt_triangles n refs) ts
