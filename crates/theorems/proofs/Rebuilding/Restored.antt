-- The rebuild from an accepted mesh's references gives the mesh back: its wood by Target, hence the table written from it, which has
-- the mesh's third corners.
use Prim.Native.Nat.{ℕ, ◌≤◌}
use mathlib.Core.Path.{◌≡◌, sym, ap, ◌∙◌, subst}
use mathlib.Core.List.{List}
use native.Mathlib.Omega.{arith}
use Rattle.mesh.specs.Limits.{unused_mark}
use Rattle.mesh.specs.Array.{references_of}
use Rattle.mesh.specs.Rebuild.{rebuilt_triangles, triangles_from}
use Rattle.mesh.specs.Verdict.{Clear}
use Rattle.mesh.proofs.Verdict.{clear_verdict}
use Rattle.theorems.specs.SameMesh.{SameTriangles, GivenBack}
use Rattle.theorems.proofs.Accepted.{pairs, few}
use Rattle.theorems.proofs.Rebuilding.Again.{table, table_third, table_clear, table_references}
use Rattle.theorems.proofs.Rebuilding.Same.{same_triangles}
use Rattle.theorems.proofs.Rebuilding.RebuiltWood.{rebuilt_wood_holds}
use Rattle.mesh.proofs.Says.{triangles_is, says_0_of}

module _ (n : ℕ) (ts ws : List ℕ) (A : Clear n ts ws) where
  pub rebuilt_table : rebuilt_triangles n (references_of n ts ws) ≡ table n ts ws A
  rebuilt_table =
      triangles_is n (references_of n ts ws) ∙ ap (triangles_from n (references_of n ts ws)) (rebuilt_wood_holds n ts ws A)

  pub restored : GivenBack n (references_of n ts ws) ts ws
  restored =
      let w = rebuilt_wood_holds n ts ws A in
      let t = rebuilt_table in
      let f : n ≤ unused_mark = (let a = few n ts ws A in omega arith) in
      record {
        says = says_0_of n (references_of n ts ws)
            (rw (t, w) (clear_verdict n (table n ts ws A) ws (table_clear n ts ws A))) (rw (t, w) (table_references n ts ws A));
        wood = w;
        triangles =
            subst (λ us. SameTriangles us ts) (sym t)
            (same_triangles n (table n ts ws A) ts (pairs n (table n ts ws A) ws (table_clear n ts ws A)) (pairs n ts ws A) f (table_third n ts ws A));
      }
