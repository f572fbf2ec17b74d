-- A build's ladder, rung by rung as the code meets it; what 1 and 2 leave to the check; and what its contract fixes: two ends that it
-- allows are equal, and one that is done is of an accepted mesh.
use Prim.Native.Nat.{ℕ, suc}
use mathlib.Core.Path.{◌≡◌, refl, sym, ap, ◌∙◌}
use mathlib.Core.List.{List, ◌∷◌}
use mathlib.Core.Bool.{Bool, true, false, cond, not, ◌&&◌}
use native.Mathlib.Omega.{arith}
use Rattle.std.specs.Bool.{⊤}
use Rattle.std.specs.declared.result.Result.{Result}
use Rattle.std.specs.declared.result.Result.TheVariants.{Ok}
use lib.ListN.{length}
use lib.Dec.{eqb}
use borrow.Author.Tests.{eq-eqb, ne_eqb, eqb-true, not-false}
use Rattle.mesh.specs.Limits.{out_of_range, triangles_length, wood_length, references_length, service_length, InRange}
use Rattle.mesh.specs.Ladder.{Rung, rung, first_of, past}
use Rattle.mesh.specs.Verdict.{wrong_lengths, sized, mesh_ladder, verdict}
use Rattle.mesh.specs.Array.{references_of, service_of}
use Rattle.mesh.proofs.Tests.{by_bool, and_true}
use Rattle.mesh.proofs.Limits.{in_range, range_in}
use Rattle.mesh.proofs.Ladder.{stands, falls, free, among, proper, first_none}
use Rattle.mesh.proofs.Verdict.{verdict_is, below_sizes, clear_verdict}
use Rattle.tables.specs.declared.refusal.Refusal.{Refusal}
use Rattle.tables.specs.Refusal.{number, number_met}
use Rattle.tables.proofs.RefusalLaws.{number_above, met_once}
use Rattle.tables.proofs.RungLaws.{passed_by, rung_met}
use Rattle.array.specs.Build.{lengths_fit, build_lengths, build_says, Build}

-- what 1 and 2 leave
pub record Fitting (n : ℕ) (ts ws refs service : List ℕ) : Type 0 where
  pub range : InRange n
  pub triangles_right : length ts ≡ triangles_length n
  pub wood_right : length ws ≡ wood_length n
  pub references_right : length refs ≡ references_length n
  pub service_right : length service ≡ service_length n

module _ (n : ℕ) (ts ws refs service : List ℕ) where
  fitting : out_of_range n ≡ false → build_lengths n ts ws refs service ≡ true → Fitting n ts ws refs service
  unfolding lengths_fit
  fitting l e =
      let a : Bool = eqb (length ts) (triangles_length n) in
      let b : Bool = eqb (length ws) (wood_length n) in
      let c : Bool = eqb (length refs) (references_length n) in
      let d : Bool = eqb (length service) (service_length n) in
      let p = and_true a (b && (c && d)) e in
      let q = and_true b (c && d) p.1 in
      let u = and_true c d q.1 in
      record {
        range = in_range n l;
        triangles_right = eqb-true (length ts) (triangles_length n) p.0;
        wood_right = eqb-true (length ws) (wood_length n) q.0;
        references_right = eqb-true (length refs) (references_length n) u.0;
        service_right = eqb-true (length service) (service_length n) u.1;
      }

  fitting_lengths : Fitting n ts ws refs service → build_lengths n ts ws refs service ≡ true
  unfolding lengths_fit
  fitting_lengths F =
      rw (
        eq-eqb (length ts) (triangles_length n) F.triangles_right,
        eq-eqb (length ws) (wood_length n) F.wood_right,
        eq-eqb (length refs) (references_length n) F.references_right,
        eq-eqb (length service) (service_length n) F.service_right,
      )

  -- with its two lengths right number 2 of a mesh does not apply
  mesh_lengths_right : Fitting n ts ws refs service → wrong_lengths n ts ws ≡ false
  unfolding wrong_lengths
  mesh_lengths_right F = rw (eq-eqb (length ts) (triangles_length n) F.triangles_right, eq-eqb (length ws) (wood_length n) F.wood_right)

  -- 1, and 2 by a test of the lengths that asks m vertices' tables; both tests answer 0 where they pass
  pub says_1 : (x : Refusal) → number x ≡ cond (out_of_range n) 1 0 → number x ≡ build_says n ts ws refs service
  unfolding build_says
  says_1 x e = rung_met 1 (out_of_range n) _ x e

  module _ (m : ℕ) (fit : Bool) (a : ◌≡◌ {A = ℕ} 0 (cond (out_of_range n) 1 0)) (same : m ≡ n)
      (e : fit ≡ lengths_fit m (length ts) (length ws) (length refs) (length service)) where
    tested : fit ≡ build_lengths n ts ws refs service
    tested = e ∙ ap (λ k. lengths_fit k (length ts) (length ws) (length refs) (length service)) same

    pub says_2 : (x : Refusal) → number x ≡ cond (not fit) 2 0 → number x ≡ build_says n ts ws refs service
    unfolding build_says
    says_2 x f =
        rung_met 2 (not (build_lengths n ts ws refs service)) _ x (f ∙ ap (λ b. cond (not b) 2 0) tested) ∙
        sym (falls 1 (out_of_range n) _ (passed_by _ 0 a))

    pub passed : ◌≡◌ {A = ℕ} 0 (cond (not fit) 2 0) → Fitting n ts ws refs service
    passed f = fitting (passed_by _ 0 a) (sym tested ∙ not-false fit (passed_by _ 1 f))

  pub says_mesh : Fitting n ts ws refs service → build_says n ts ws refs service ≡ first_of (mesh_ladder n ts ws)
  unfolding build_says
  says_mesh F =
      falls 1 (out_of_range n) _ (range_in n F.range) ∙
      falls 2 (not (build_lengths n ts ws refs service)) _ (ap not (fitting_lengths F))

  -- a refusal by the build's number leaves both buffers as they were
  pub build_refused : (r : Result ⊤ Refusal) (x : Refusal) → number_met r ≡ number x → number x ≡ build_says n ts ws refs service → Build n ts ws refs service r refs service
  build_refused r x f e =
      let l = number_above x in
      let d : eqb (build_says n ts ws refs service) 0 ≡ false = ne_eqb (build_says n ts ws refs service) 0 (λ z. omega arith) in
      record { answer = f ∙ e; references = rw d; service_bytes = rw d }

  pub build_filled : (a : ⊤) (refs' service' : List ℕ) → build_says n ts ws refs service ≡ 0 → refs' ≡ references_of n ts ws → service' ≡ service_of n ts ws
      → Build n ts ws refs service (Ok a) refs' service'
  build_filled a refs' service' e f g = record { answer = sym e; references = rw e f; service_bytes = rw e g }

  -- with both buffers of the right lengths a build says what the verdict says
  pub build_says_holds : length refs ≡ references_length n → length service ≡ service_length n → build_says n ts ws refs service ≡ verdict n ts ws
  unfolding build_says wrong_lengths lengths_fit
  build_says_holds e f =
      rw (
        eq-eqb (length refs) (references_length n) e,
        eq-eqb (length service) (service_length n) f,
        verdict_is n ts ws,
      )
      (by_bool (eqb (length ws) (wood_length n)) (λ t. rw t) (λ t. rw t))

  -- a build that is done: the mesh is accepted, and the buffers hold its array
  pub build_done : (r : Result ⊤ Refusal) (refs' service' : List ℕ) → Build n ts ws refs service r refs' service' → number_met r ≡ 0
      → (verdict n ts ws ≡ 0) × (refs' ≡ references_of n ts ws) × (service' ≡ service_of n ts ws)
  unfolding build_says among proper
  build_done r refs' service' B d =
      let z : build_says n ts ws refs service ≡ 0 = sym B.answer ∙ d in
      let h = first_none (sized n (not (build_lengths n ts ws refs service)) (mesh_ladder n ts ws)) refl z in
      let F = fitting (free h 1) (not-false (build_lengths n ts ws refs service) (free h 2)) in (
        clear_verdict n ts ws (past (free h 1) (past (mesh_lengths_right F) (below_sizes h))),
        rw z at B.references,
        rw z at B.service_bytes,
      )

-- the contract fixes the answer and both buffers
pub build_once : (n : ℕ) (ts ws refs service : List ℕ) (r s : Result ⊤ Refusal) (refs' refs'' service' service'' : List ℕ)
    → Build n ts ws refs service r refs' service' → Build n ts ws refs service s refs'' service''
    → (r ≡ s) × (refs' ≡ refs'') × (service' ≡ service'')
build_once n ts ws refs service r s refs' refs'' service' service'' a b =
    (met_once r s (a.answer ∙ sym b.answer), a.references ∙ sym b.references, a.service_bytes ∙ sym b.service_bytes)
