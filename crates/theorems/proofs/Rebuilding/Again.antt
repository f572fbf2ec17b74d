-- The table written from an accepted mesh's references and wood is accepted with that wood, and has the same references. Numbers
-- 7 to 13 and the references depend on a table through its third corners alone, and these are the same; 2 to 6 by Permuted.
use Prim.Native.Nat.{ℕ}
use mathlib.Core.Path.{◌≡◌, sym, ap, ◌∙◌, subst, fun_ext}
use mathlib.Core.List.{List}
use mathlib.Core.Bool.{false}
use lib.ListN.{length}
use borrow.Author.Tests.{eq-eqb}
use Rattle.mesh.specs.Search.{some}
use Rattle.mesh.specs.Limits.{triangles_length, wood_length}
use Rattle.mesh.specs.Sides.{third}
use Rattle.mesh.specs.Ladder.{end, past}
use Rattle.mesh.specs.Verdict.{wrong_lengths, outer_fault, turn_fault, Clear, WoodClear}
use Rattle.mesh.specs.Array.{references_by, references_of}
use Rattle.mesh.specs.Rebuild.{triangles_from}
use Rattle.mesh.proofs.Ladder.{free}
use Rattle.mesh.proofs.Verdict.{wood_part, clear_of}
use Rattle.theorems.proofs.Accepted.{pairs, wood_length_holds}
use Rattle.theorems.proofs.Rebuilding.Written.{refs}
use Rattle.theorems.proofs.Rebuilding.Table.{origin, table_length, table_permuted}
use Rattle.theorems.proofs.Rebuilding.Permuted.{permuted_3, permuted_4, permuted_5, permuted_6, same_third}

-- a mesh's references depend on its table through the third corners
pub same_references : (n : ℕ) (ts ts' ws : List ℕ) → third ts' ≡ third ts → references_of n ts' ws ≡ references_of n ts ws
unfolding references_of
same_references n ts ts' ws e = ap (λ x. references_by n x ws) e

module _ (n : ℕ) (ts ws : List ℕ) (A : Clear n ts ws) where
  abbrev pub table : List ℕ
  table = triangles_from n (refs n ts ws A) ws

  pub table_third : third table ≡ third ts
  table_third = fun_ext (λ a. fun_ext (λ b. same_third n ts table (origin n ts ws A) (pairs n ts ws A) (table_permuted n ts ws A) a b))

  right_lengths : wrong_lengths n table ws ≡ false
  unfolding wrong_lengths
  right_lengths =
      rw (eq-eqb (length table) (triangles_length n) (table_length n ts ws A), eq-eqb (length ws) (wood_length n) (wood_length_holds n ts ws A))

  pub table_clear : Clear n table ws
  table_clear =
      let π : ℕ → ℕ = origin n ts ws A in
      let P = pairs n ts ws A in
      let S = table_permuted n ts ws A in
      clear_of n table ws (free A 1) right_lengths
      (past (permuted_3 n ts table π P S)
      (past (permuted_4 n ts table π P S)
      (past (permuted_5 n ts table π P S)
      (past (permuted_6 n ts table π P S)
      (past (ap outer_fault table_third ∙ free A 7)
      (past (ap (λ x. some (turn_fault n x) n) table_third ∙ free A 8) end))))))
      (subst (λ x. WoodClear n x ws) (sym table_third) (wood_part n ts ws A))

  pub table_references : references_of n table ws ≡ refs n ts ws A
  table_references = same_references n ts table ws table_third
