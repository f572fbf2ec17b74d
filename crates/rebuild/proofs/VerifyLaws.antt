-- A mesh built anew, and its references compared with those given.
use Prim.Native.Nat.{ℕ}
use mathlib.Core.Path.{◌≡◌, refl, sym, ap, ◌∙◌}
use mathlib.Core.List.{List, [], ◌∷◌}
use mathlib.Core.Bool.{Bool, cond, not, ◌&&◌}
use mathlib.Core.Logic.{◌≢◌}
use lib.ListN.{length}
use lib.Dec.{eqb}
use lib.Pointwise.{pointwise}
use borrow.Author.Tests.{ne_eqb}
use Rattle.std.specs.Bool.{⊤}
use Rattle.std.specs.declared.result.Result.{Result}
use Rattle.mesh.specs.Limits.{references_length, service_length}
use Rattle.mesh.specs.Verdict.{verdict}
use Rattle.mesh.specs.Array.{references_of}
use Rattle.mesh.specs.Rebuild.{same_list}
use Rattle.mesh.proofs.Tests.{by_bool}
use Rattle.tables.specs.declared.refusal.Refusal.{Refusal}
use Rattle.tables.specs.Refusal.{number_met}
use Rattle.array.specs.Build.{build_says, Build}
use Rattle.array.proofs.BuildLaws.{build_says_holds}

-- the comparison of two tables as the code makes it
pointwise_same : (xs ys : List ℕ) → pointwise eqb xs ys ≡ same_list xs ys
unfolding same_list
pointwise_same [] [] = refl
pointwise_same [] (y ∷ ys) = refl
pointwise_same (x ∷ xs) [] = refl
pointwise_same (x ∷ xs) (y ∷ ys) = rw (pointwise_same xs ys)

-- a build into tables of the right lengths, old and bytes, which leaves built and service
module _ (n : ℕ) (ts ws refs old bytes built service : List ℕ) (r : Result ⊤ Refusal)
    (B : Build n ts ws old bytes r built service) (l : length old ≡ references_length n) (m : length bytes ≡ service_length n) where
  met_verdict : number_met r ≡ verdict n ts ws
  met_verdict = B.answer ∙ build_says_holds n ts ws old bytes l m

  pub not_built : number_met r ≢ 0 → ◌≡◌ {A = ℕ} 18 (cond (eqb (verdict n ts ws) 0 && same_list (references_of n ts ws) refs) 0 18)
  not_built d = rw (ne_eqb (verdict n ts ws) 0 (λ z. d (met_verdict ∙ z)))

  pub built_anew : number_met r ≡ 0 → (k : ℕ) (b : Bool) → b ≡ not (pointwise eqb built refs) → k ≡ cond b 18 0
      → k ≡ cond (eqb (verdict n ts ws) 0 && same_list (references_of n ts ws) refs) 0 18
  built_anew e k b f h =
      let t : Bool = same_list (references_of n ts ws) refs in
      let z : verdict n ts ws ≡ 0 = sym met_verdict ∙ e in
      let s : build_says n ts ws old bytes ≡ 0 = build_says_holds n ts ws old bytes l m ∙ z in
      let q : built ≡ references_of n ts ws = B.references ∙ rw s in
      let g : b ≡ not t = f ∙ ap not (pointwise_same built refs ∙ ap (λ (x : List ℕ). same_list x refs) q) in
      h ∙ ap (λ (x : Bool). cond x 18 0) g ∙ rw z (by_bool t (λ u. rw u) (λ u. rw u))
