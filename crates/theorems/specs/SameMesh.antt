-- Demand 3, as a reader should see it: when two tables hold the same triangles, and what it is that a rebuild gives a mesh back.
use Rattle.std.specs.Prelude.{ℕ, ◌≡◌, List, ◌↔◌}
use Rattle.mesh.specs.Mesh.{Triangle}
use Rattle.mesh.specs.Rebuild.{rebuild_says, rebuilt_wood, rebuilt_triangles}

-- Order and turning aside: each triangle of one table is, turned, a triangle of the other, and the other way round. `Triangle ts a b c`
-- says that some triangle of ts, read from one of its three corners on, is a, b, c.
abbrev pub SameTriangles : List ℕ → List ℕ → Type 0
SameTriangles ts us = (a b c : ℕ) → Triangle ts a b c ↔ Triangle us a b c

-- The rebuild from n and the references refuses nothing, and gives back the wood ws and the triangles of ts.
pub record GivenBack (n : ℕ) (refs ts ws : List ℕ) : Type 0 where
  pub says : rebuild_says n refs ≡ 0
  pub wood : rebuilt_wood n refs ≡ ws
  pub triangles : SameTriangles (rebuilt_triangles n refs) ts
