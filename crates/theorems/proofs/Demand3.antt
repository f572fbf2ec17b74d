-- Demand 3: the references alone, without the service bytes, determine the mesh; the rebuild gives it back, and says 18 exactly where
-- no accepted mesh has the array.
use Prim.Native.Nat.{ℕ}
use mathlib.Core.Path.{◌≡◌, sym, ap, ◌∙◌, subst}
use mathlib.Core.List.{List}
use mathlib.Core.Logic.Iff
use mathlib.Core.Logic.{◌↔◌, ◌⊎◌, inl, inr}
use native.Mathlib.Omega.{arith}
use lib.ListN.{length}
use Rattle.mesh.specs.Verdict.{verdict}
use Rattle.mesh.specs.Array.{references_of}
use Rattle.mesh.specs.Rebuild.{rebuild_says, rebuilt_wood, rebuilt_triangles}
use Rattle.mesh.proofs.Verdict.{verdict_clear}
use Rattle.theorems.specs.SameMesh.{SameTriangles, GivenBack}
use Rattle.theorems.proofs.Fronts.{references_length_holds}
use Rattle.mesh.proofs.Says.{says_0_or_18, says_0}
use Rattle.theorems.proofs.Rebuilding.Restored.{restored}

-- every accepted mesh is given back from its references
pub rebuild_gives_back : (n : ℕ) (refs ts ws : List ℕ) → verdict n ts ws ≡ 0 → references_of n ts ws ≡ refs → GivenBack n refs ts ws
rebuild_gives_back n refs ts ws v e = subst (λ r. GivenBack n r ts ws) e (restored n ts ws (verdict_clear n ts ws v))

-- two accepted meshes with the same references have one wood and the same triangles
pub same_mesh : (n : ℕ) (ts ws us vs : List ℕ) → verdict n ts ws ≡ 0 → verdict n us vs ≡ 0 → references_of n ts ws ≡ references_of n us vs
    → (ws ≡ vs) × SameTriangles ts us
same_mesh n ts ws us vs v w e =
    let a = rebuild_gives_back n (references_of n us vs) ts ws v e in
    let b = restored n us vs (verdict_clear n us vs w) in
    (sym a.wood ∙ b.wood, λ x y z. Iff.trans (Iff.symm (a.triangles x y z)) (b.triangles x y z))

-- a mesh of another size has other references
pub same_size : (n m : ℕ) (ts ws us vs : List ℕ) → references_of n ts ws ≡ references_of m us vs → n ≡ m
same_size n m ts ws us vs e = let a = references_length_holds n ts ws in let b = references_length_holds m us vs in let c = ap length e in omega arith

-- for every n and every list of numbers, the rebuild says 0 or 18
pub rebuild_says_holds : (n : ℕ) (refs : List ℕ) → (rebuild_says n refs ≡ 0) ⊎ (rebuild_says n refs ≡ 18)
rebuild_says_holds n refs = says_0_or_18 n refs

-- where it says 0, what it gives is an accepted mesh with these references
pub rebuilt_accepted : (n : ℕ) (refs : List ℕ) → rebuild_says n refs ≡ 0
    → (verdict n (rebuilt_triangles n refs) (rebuilt_wood n refs) ≡ 0)
    × (references_of n (rebuilt_triangles n refs) (rebuilt_wood n refs) ≡ refs)
rebuilt_accepted n refs e = says_0 n refs e

-- 18 exactly for the arrays that no accepted mesh has
pub rebuild_exact : (n : ℕ) (refs : List ℕ)
    → (rebuild_says n refs ≡ 18) ↔ ((ts ws : List ℕ) → verdict n ts ws ≡ 0 → references_of n ts ws ≡ refs → ⊥)
rebuild_exact n refs = (none, refused (rebuild_says_holds n refs))
  where
    none : rebuild_says n refs ≡ 18 → (ts ws : List ℕ) → verdict n ts ws ≡ 0 → references_of n ts ws ≡ refs → ⊥
    none h ts ws v e = let z = (rebuild_gives_back n refs ts ws v e).says in omega arith

    refused : (rebuild_says n refs ≡ 0) ⊎ (rebuild_says n refs ≡ 18)
        → ((ts ws : List ℕ) → verdict n ts ws ≡ 0 → references_of n ts ws ≡ refs → ⊥) → rebuild_says n refs ≡ 18
    refused (inl h) f = let a = rebuilt_accepted n refs h in absurd (f (rebuilt_triangles n refs) (rebuilt_wood n refs) a.0 a.1)
    refused (inr h) f = h
