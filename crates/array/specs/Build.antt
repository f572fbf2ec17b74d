-- What a build answers and leaves in the two buffers that it is lent.
use Rattle.std.specs.Prelude.{ℕ, ◌≡◌, List, Bool, cond, not, ◌&&◌, length, eqb}
use Rattle.mesh.specs.Limits.{triangles_length, wood_length, references_length, service_length}
use Rattle.mesh.specs.Ladder.{first_of}
use Rattle.mesh.specs.Verdict.{sized, mesh_ladder}
use Rattle.mesh.specs.Array.{references_of, service_of}
use Rattle.std.specs.declared.result.Result.{Result}
use Rattle.std.specs.Bool.{⊤}
use Rattle.tables.specs.declared.refusal.Refusal.{Refusal}
use Rattle.tables.specs.Refusal.{number_met}

-- tables so long have exactly the lengths that n asks
unfoldable pub lengths_fit : ℕ → ℕ → ℕ → ℕ → ℕ → Bool
lengths_fit n triangles wood references service =
    eqb triangles (triangles_length n) && (eqb wood (wood_length n) &&
    (eqb references (references_length n) && eqb service (service_length n)))

abbrev pub build_lengths : ℕ → List ℕ → List ℕ → List ℕ → List ℕ → Bool
build_lengths n ts ws refs service = lengths_fit n (length ts) (length ws) (length refs) (length service)

-- 1, 2 by the lengths of all four tables, then the mesh's numbers; 0 where the array is built
unfoldable pub build_says : ℕ → List ℕ → List ℕ → List ℕ → List ℕ → ℕ
build_says n ts ws refs service = first_of (sized n (not (build_lengths n ts ws refs service)) (mesh_ladder n ts ws))

-- a refused build changes neither output
pub record Build (n : ℕ) (ts ws refs service : List ℕ) (r : Result ⊤ Refusal) (refs' service' : List ℕ) : Type 0 where
  pub answer : number_met r ≡ build_says n ts ws refs service
  pub references : refs' ≡ cond (eqb (build_says n ts ws refs service) 0) (references_of n ts ws) refs
  pub service_bytes : service' ≡ cond (eqb (build_says n ts ws refs service) 0) (service_of n ts ws) service
