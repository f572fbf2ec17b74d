-- The ends of a rebuild: what its ladder says, what is decoded and verified, and what is then left in both outputs. Its contract
-- fixes all of that: two ends that it allows are equal.
use Prim.Native.Nat.{ℕ, ◌<◌}
use native.Mathlib.Omega.{arith}
use mathlib.Core.Path.{◌≡◌, refl, sym, ap, ◌∙◌}
use mathlib.Core.List.{List, [], ◌∷◌}
use mathlib.Core.Bool.{Bool, true, false, cond, not, ◌&&◌}
use mathlib.Core.Logic.{◌≢◌, ⊎_elim}
use lib.ListN.{length, replicate}
use lib.Dec.{eqb}
use Rattle.std.specs.Bool.{⊤}
use Rattle.std.specs.Result.{IsErrAnd, is_ok}
use Rattle.std.specs.declared.result.Result.{Result}
use Rattle.std.specs.declared.result.Result.TheVariants.{Ok, Err}
use borrow.Author.Tests.{eq-eqb, eqb-true, eqb-false, not-false}
use Rattle.mesh.specs.Limits.{InRange, out_of_range, unused_mark, triangles_length, wood_length, references_length}
use Rattle.mesh.specs.Ladder.{rung, first_of}
use Rattle.mesh.specs.Verdict.{wrong_lengths, verdict}
use Rattle.mesh.specs.Array.{references_of}
use Rattle.mesh.specs.Rebuild.{rebuilt_wood, rebuilt_triangles, triangles_from, same_list, rebuild_says}
use Rattle.mesh.proofs.Tests.{by_bool, clash, and_true}
use Rattle.mesh.proofs.Limits.{range_in}
use Rattle.mesh.proofs.Ladder.{stands, falls, free}
use Rattle.mesh.proofs.Verdict.{verdict_clear}
use Rattle.mesh.proofs.Says.{triangles_is, accepted, given_back, says_both, says_0_or_18}
use Rattle.tables.specs.declared.refusal.Refusal.{Refusal}
use Rattle.tables.specs.Refusal.{number, number_met}
use Rattle.tables.proofs.RefusalLaws.{number_above, met_once, left_alone}
use Rattle.tables.proofs.RungLaws.{handed_number}
use Rattle.rebuild.specs.Decode.{RightSizes, Decoded, MeshDecoded}
use Rattle.rebuild.specs.Rebuild.{rebuild_lengths, rebuild_number, Rebuild}

-- only where a call was not refused it met no number
met_ok : (r : Result ⊤ Refusal) → is_ok r ≡ true → number_met r ≡ 0
met_ok (Ok x) t = refl
met_ok (Err e) t = clash false t refl

met_err : (r : Result ⊤ Refusal) → is_ok r ≡ false → number_met r ≢ 0
met_err (Ok x) t = clash true refl t
met_err (Err e) t = λ z. let p = number_above e in omega arith

-- only a table of the right length is accepted
accepted_length : (n : ℕ) (ts ws : List ℕ) → length ts ≢ triangles_length n → eqb (verdict n ts ws) 0 ≡ false
unfolding wrong_lengths
accepted_length n ts ws d =
    by_bool (eqb (verdict n ts ws) 0)
    (λ t.
    let c = verdict_clear n ts ws (eqb-true (verdict n ts ws) 0 t) in
    let a = and_true (eqb (length ts) (triangles_length n)) (eqb (length ws) (wood_length n))
    (not-false (eqb (length ts) (triangles_length n) && eqb (length ws) (wood_length n)) (free c 2)) in
    absurd (d (eqb-true (length ts) (triangles_length n) a.0)))
    (λ t. t)

-- the definition, by one test
says_by : (n : ℕ) (refs : List ℕ) → rebuild_says n refs ≡ cond (accepted n refs && given_back n refs) 0 18
says_by n refs =
    ⊎_elim (λ e. e ∙ rw (sym (says_both n refs), e)) (λ e. e ∙ rw (sym (says_both n refs), e)) (says_0_or_18 n refs)

-- triangles decoded into the table `old`, by the decoded wood
module _ (n : ℕ) (refs old ws ts : List ℕ) (k : ℕ) (o : length old ≡ triangles_length n) (w : ws ≡ rebuilt_wood n refs) (D : Decoded n refs ws old k ts) where
  pub decode_fails : k ≢ 0 → MeshDecoded n refs k ws ts
  decode_fails d =
      let b : Bool = eqb (length (triangles_from n refs ws)) (length old) in
      let f : b ≡ false = by_bool b (λ t. absurd (d (D.exact ∙ rw t))) (λ t. t) in
      let g : length (rebuilt_triangles n refs) ≢ triangles_length n = λ e.
      eqb-false (length (triangles_from n refs ws)) (length old) f (rw w (ap length (sym (triangles_is n refs)) ∙ e ∙ sym o)) in
      record {
        answer = D.exact ∙ rw f (sym (says_by n refs ∙ rw (accepted_length n (rebuilt_triangles n refs) (rebuilt_wood n refs) g)));
        wood = λ e. absurd (d e);
        triangles = λ e. absurd (d e);
      }

  pub decode_verified : (v : ℕ) → k ≡ 0 → v ≡ cond (eqb (verdict n ts ws) 0 && same_list (references_of n ts ws) refs) 0 18 → MeshDecoded n refs v ws ts
  decode_verified v z e =
      let f : ts ≡ rebuilt_triangles n refs = D.table z ∙ ap (triangles_from n refs) w ∙ sym (triangles_is n refs) in
      record { answer = e ∙ rw (f, w) (sym (says_by n refs)); wood = λ u. w; triangles = λ u. f }

module _ (n : ℕ) (refs ws ts : List ℕ) where
  -- the sizes, as the code finds them
  pub number_1 : out_of_range n ≡ true → rebuild_number n refs ws ts ≡ 1
  unfolding rebuild_number
  number_1 e = stands 1 (out_of_range n) _ e

  pub number_2 : out_of_range n ≡ false → rebuild_lengths n refs ws ts ≡ false → rebuild_number n refs ws ts ≡ 2
  unfolding rebuild_number
  number_2 a e = falls 1 (out_of_range n) _ a ∙ stands 2 (not (rebuild_lengths n refs ws ts)) _ (rw e)

  pub right_sizes : (fit : Bool) → InRange n → fit ≡ rebuild_lengths n refs ws ts → ◌≡◌ {A = ℕ} 0 (cond (not fit) 2 0) → RightSizes n refs ws ts
  unfolding rebuild_lengths
  right_sizes fit i f g =
      let b : Bool = eqb (length refs) (references_length n) in
      let c : Bool = eqb (length ws) (wood_length n) in
      let d : Bool = eqb (length ts) (triangles_length n) in
      let t : rebuild_lengths n refs ws ts ≡ true = sym f ∙ (by_bool fit (λ t. t) (λ t. absurd (let z : ◌≡◌ {A = ℕ} 0 2 = rw t at g in omega arith))) in
      let p = and_true b (c && d) t in
      let q = and_true c d p.1 in
      record {
        range = i;
        references_right = eqb-true (length refs) (references_length n) p.0;
        wood_right = eqb-true (length ws) (wood_length n) q.0;
        triangles_right = eqb-true (length ts) (triangles_length n) q.1;
      }

  -- 1 and 2 change nothing
  module _ (r : Result ⊤ Refusal) (e : Refusal) (h : IsErrAnd r (λ x. x ≡ e)) where
    pub rebuild_kept : number e ≡ rebuild_number n refs ws ts → number e < 3 → Rebuild n refs ws ts r ws ts
    rebuild_kept z l =
        let d : number e ≢ 0 = λ z. let p = number_above e in omega arith in
        record {
          answer = handed_number r e h ∙ z;
          wood = rw (sym z) (sym (left_alone (number e) (rebuilt_wood n refs) ws d l));
          triangles = rw (sym z) (sym (left_alone (number e) (rebuilt_triangles n refs) ts d l));
        }

    pub range_refuses : number e ≡ cond (out_of_range n) 1 0 → Rebuild n refs ws ts r ws ts
    range_refuses g =
        by_bool (out_of_range n) (λ t. let z : number e ≡ 1 = g ∙ rw t in rebuild_kept (z ∙ sym (number_1 t)) (omega arith))
        (λ t. absurd (let z : number e ≡ 0 = g ∙ rw t in let p = number_above e in omega arith))

    pub lengths_refuse : (fit : Bool) → InRange n → fit ≡ rebuild_lengths n refs ws ts → number e ≡ cond (not fit) 2 0 → Rebuild n refs ws ts r ws ts
    lengths_refuse fit i f g =
        by_bool fit (λ t. absurd (let z : number e ≡ 0 = g ∙ rw t in let p = number_above e in omega arith))
        (λ t.
        let z : number e ≡ 2 = g ∙ rw t in
        rebuild_kept (z ∙ sym (number_2 (range_in n i) (sym f ∙ t))) (omega arith))

  module _ (R : RightSizes n refs ws ts) where
    past_sizes : rebuild_number n refs ws ts ≡ first_of (rung 18 (eqb (rebuild_says n refs) 18) ∷ [])
    unfolding rebuild_number rebuild_lengths
    past_sizes =
        falls 1 (out_of_range n) _ (range_in n R.range) ∙
        falls 2 (not (rebuild_lengths n refs ws ts)) _
        (rw (
          eq-eqb (length refs) (references_length n) R.references_right,
          eq-eqb (length ws) (wood_length n) R.wood_right,
          eq-eqb (length ts) (triangles_length n) R.triangles_right,
        ))

    -- the number is then the definition's
    pub rebuild_says_holds : rebuild_number n refs ws ts ≡ rebuild_says n refs
    unfolding first_of
    rebuild_says_holds = past_sizes ∙ ⊎_elim (λ e. rw e) (λ e. rw e) (says_0_or_18 n refs)

    module _ (r : Result ⊤ Refusal) (ws' ts' : List ℕ) (M : MeshDecoded n refs (number_met r) ws' ts') where
      pub rebuild_done : is_ok r ≡ true → Rebuild n refs ws ts r ws' ts'
      rebuild_done t =
          let e = met_ok r t in
          let z : rebuild_number n refs ws ts ≡ 0 = rebuild_says_holds ∙ sym M.answer ∙ e in
          record { answer = e ∙ sym z; wood = rw z (M.wood e); triangles = rw z (M.triangles e) }

      -- 18 leaves the mark in every place of both
      pub rebuild_marked : (ws'' ts'' : List ℕ) → is_ok r ≡ false → length ws' ≡ length ws → length ts' ≡ length ts
          → ws'' ≡ replicate (length ws') unused_mark → ts'' ≡ replicate (length ts') unused_mark → Rebuild n refs ws ts r ws'' ts''
      rebuild_marked ws'' ts'' f lw lt mw mt =
          let s : rebuild_says n refs ≡ 18 = ⊎_elim (λ e. absurd (met_err r f (M.answer ∙ e))) (λ e. e) (says_0_or_18 n refs) in
          let z : rebuild_number n refs ws ts ≡ 18 = rebuild_says_holds ∙ s in
          record { answer = M.answer ∙ s ∙ sym z; wood = rw z (mw ∙ ap (λ (m : ℕ). replicate m unused_mark) lw); triangles = rw z (mt ∙ ap (λ (m : ℕ). replicate m unused_mark) lt) }

-- the contract fixes the answer and both outputs
pub rebuild_once : (n : ℕ) (refs ws ts : List ℕ) (r s : Result ⊤ Refusal) (ws' ws'' ts' ts'' : List ℕ)
    → Rebuild n refs ws ts r ws' ts' → Rebuild n refs ws ts s ws'' ts'' → (r ≡ s) × (ws' ≡ ws'') × (ts' ≡ ts'')
rebuild_once n refs ws ts r s ws' ws'' ts' ts'' a b =
    (met_once r s (a.answer ∙ sym b.answer), a.wood ∙ sym b.wood, a.triangles ∙ sym b.triangles)
