-- What decoding asks, and what it answers and leaves in the tables that it writes to.
use Rattle.std.specs.Prelude.{ℕ, ◌≡◌, List, cond, length, eqb}
use Rattle.mesh.specs.Limits.{InRange, triangles_length, wood_length, references_length}
use Rattle.mesh.specs.Rebuild.{rebuilt_wood, triangles_from, rebuilt_triangles, rebuild_says}

-- what numbers 1 and 2 leave
pub record RightSizes (n : ℕ) (refs ws ts : List ℕ) : Type 0 where
  pub range : InRange n
  pub references_right : length refs ≡ references_length n
  pub wood_right : length ws ≡ wood_length n
  pub triangles_right : length ts ≡ triangles_length n

-- number 18 where the decoded triangles do not fill the table `old` exactly; 0 where they do, and then what it holds
pub record Decoded (n : ℕ) (refs ws old : List ℕ) (k : ℕ) (new : List ℕ) : Type 0 where
  pub exact : k ≡ cond (eqb (length (triangles_from n refs ws)) (length old)) 0 18
  pub table : k ≡ 0 → new ≡ triangles_from n refs ws

-- number 18 where no accepted mesh with these references was decoded; 0 where one was, and then what the outputs hold
pub record MeshDecoded (n : ℕ) (refs : List ℕ) (k : ℕ) (ws ts : List ℕ) : Type 0 where
  pub answer : k ≡ rebuild_says n refs
  pub wood : k ≡ 0 → ws ≡ rebuilt_wood n refs
  pub triangles : k ≡ 0 → ts ≡ rebuilt_triangles n refs
