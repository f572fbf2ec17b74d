-- The wood read from an accepted mesh's references is its wood: Target answers each edge's target, and the indices that are no edges
-- hold the mark in both.
use Prim.Native.Nat.{ℕ, ◌*◌, ◌<◌}
use mathlib.Core.Path.{◌≡◌, refl, sym, ap, ◌∙◌}
use mathlib.Core.List.{List}
use mathlib.Core.Bool.{false, ◌||◌}
use lib.Dec.{leb, eqb}
use borrow.Author.Tests.{leb-false, eqb-true}
use Rattle.mesh.specs.Search.{first, first_from, every}
use Rattle.mesh.specs.Limits.{at, unused_mark, wood_length}
use Rattle.mesh.specs.Wood.{target, anchor_targets, used}
use Rattle.mesh.specs.Array.{references_of}
use Rattle.mesh.specs.Rebuild.{vertex_of, rebuilt_target, rebuilt_wood}
use Rattle.mesh.proofs.Tests.{by_bool, clash, or_false, or_true}
use Rattle.mesh.proofs.Search.{every_at}
use Rattle.mesh.proofs.Lists.{tabulate_is}
use Rattle.mesh.specs.Verdict.{Clear}
use Rattle.theorems.proofs.Accepted.{marked, wood_length_holds}
use Rattle.theorems.proofs.Answers.{target_found}

-- an index that is no edge is below 9, and holds the mark
unused_mark_holds : (j : ℕ) → used j ≡ false → (j < 9) × (at anchor_targets j ≡ unused_mark)
unfolding used every first first_from
unused_mark_holds j u =
    let l : j < 9 = leb-false 9 j (or_false (leb 9 j) _ u).0 in (
      l,
      or_true (used j) (eqb (at anchor_targets j) unused_mark) (every_at (λ j. used j || eqb (at anchor_targets j) unused_mark) 9 refl j l)
          (λ t. clash (used j) t u) (λ t. eqb-true (at anchor_targets j) unused_mark t),
    )

module _ (n : ℕ) (ts ws : List ℕ) (A : Clear n ts ws) where
  target_is : (j : ℕ) → j < 3 * n → target ws j ≡ rebuilt_target n (references_of n ts ws) j
  unfolding rebuilt_target
  target_is j l =
      by_bool (used j) (λ u. rw u (sym (ap vertex_of (target_found n ts ws A j u l).answer)))
      (λ u. let m = unused_mark_holds j u in rw u ((marked n ts ws A).anchor_edges j m.0 ∙ m.1))

  pub rebuilt_wood_holds : rebuilt_wood n (references_of n ts ws) ≡ ws
  unfolding rebuilt_wood
  rebuilt_wood_holds = sym (tabulate_is (rebuilt_target n (references_of n ts ws)) (wood_length n) ws unused_mark (wood_length_holds n ts ws A) target_is)
