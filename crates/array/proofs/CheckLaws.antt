-- The check as a build asks for it, past 1 and 2: its tables are the fronts of two longer ones, so that its number is the build's; and
-- where that is 0 the mesh is accepted and both tables are filled.
use Prim.Native.Nat.{ℕ, ◌*◌, ◌-◌}
use mathlib.Core.Path.{◌≡◌, sym, ap, ◌∙◌, subst}
use mathlib.Core.List.{List}
use mathlib.Core.Bool.{◌&&◌}
use native.Mathlib.Omega.{arith}
use lib.Dec.{eqb}
use lib.ListN.{length, take, replicate}
use borrow.Author.Tests.{eqb-true, not-false}
use Rattle.std.specs.Bool.{⊤}
use Rattle.std.specs.declared.result.Result.{Result}
use Rattle.mesh.specs.Limits.{at, unused_mark, most_vertices, triangles_length, wood_length}
use Rattle.mesh.specs.Ladder.{first_of}
use Rattle.mesh.specs.Verdict.{wrong_lengths, table_ladder}
use Rattle.mesh.proofs.Tests.{and_true}
use Rattle.mesh.proofs.Ladder.{free, none_first}
use Rattle.mesh.proofs.Verdict.{table_part}
use Rattle.tables.specs.declared.refusal.Refusal.{Refusal}
use Rattle.tables.specs.Refusal.{number_met}
use Rattle.tables.specs.Checked.{PositionTable}
use Rattle.tables.proofs.CheckedLaws.{positions_each}
use Rattle.tables.proofs.TableLaws.{prefix_long}
use Rattle.wood.specs.Checked.{MeshSizes, mesh_says, MeshChecked, MeshDone}
use Rattle.wood.proofs.CheckedLaws.{says_mesh, mesh_done}
use Rattle.array.specs.Build.{build_says}
use Rattle.array.proofs.BuildLaws.{Fitting}
use Rattle.array.proofs.BuildLaws.{says_mesh as says_fitting}

-- the tables are fronts of k and of l places of the longest ones; m is n as the code carries it
module _ {n : ℕ} {ts ws refs service : List ℕ} (F : Fitting n ts ws refs service) (m k l : ℕ) (same : m ≡ n) (e : k ≡ triangles_length m) (f : l ≡ wood_length m) where
  abbrev twins : List ℕ
  twins = take k (replicate (6 * most_vertices - 12) unused_mark)

  abbrev positions : List ℕ
  positions = take l (replicate (3 * most_vertices) unused_mark)

  sizes : MeshSizes n ts ws twins positions
  sizes =
      let r = F.range in
      let a : k ≡ triangles_length n = e ∙ ap triangles_length same in
      let b : l ≡ wood_length n = f ∙ ap wood_length same in
      record {
        range = r;
        triangles_length_holds = F.triangles_right;
        wood_length_holds = F.wood_right;
        twins_length = sym (prefix_long k (6 * most_vertices - 12) unused_mark (omega arith)) ∙ a;
        positions_length = sym (prefix_long l (3 * most_vertices) unused_mark (omega arith)) ∙ b;
      }

  pub says_met : mesh_says n ts ws twins positions ≡ build_says n ts ws refs service
  says_met = says_mesh n ts ws _ _ sizes ∙ sym (says_fitting n ts ws refs service F)

  pub met_done : {r : Result ⊤ Refusal} {twins' positions' : List ℕ} → MeshChecked n ts ws twins positions r twins' positions' → number_met r ≡ 0
      → MeshDone m ts ws twins' positions'
  met_done {r} {twins'} {positions'} M z = subst (λ x. MeshDone x ts ws twins' positions') (sym same) (mesh_done M z)

-- where the check is done, what an accepted mesh needs
module _ {n : ℕ} {ts ws twins positions : List ℕ} (d : MeshDone n ts ws twins positions) where
  pub done_whole : length ts ≡ triangles_length n
  unfolding wrong_lengths
  done_whole =
      let both = not-false (eqb (length ts) (triangles_length n) && eqb (length ws) (wood_length n)) (free d.clear 2) in
      eqb-true (length ts) (triangles_length n) (and_true (eqb (length ts) (triangles_length n)) (eqb (length ws) (wood_length n)) both).0

  pub done_clear : first_of (table_ladder n ts) ≡ 0
  done_clear = none_first (table_part n ts ws d.clear)

  pub done_positions : PositionTable n ts ws positions
  done_positions j l = ap (λ (t : List ℕ). at t j) d.edge_positions ∙ positions_each n ts ws j l
