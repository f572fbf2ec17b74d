-- The check of a triangle table, end by end: which ends its contract allows, that no two differ, and what "done" and a refusal say.
use Prim.Native.Nat.{ℕ, ◌≤◌, ◌<◌}
use mathlib.Core.Path.{◌≡◌, refl, sym, ap, ◌∙◌}
use mathlib.Core.List.{List}
use mathlib.Core.Bool.{true, false, not, ◌&&◌}
use mathlib.Core.Logic.{◌≢◌}
use native.Mathlib.Omega.{arith}
use lib.ListN.{length, replicate}
use lib.Dec.{eqb}
use borrow.Author.Tests.{eqb-true, eq-eqb, ne_eqb, not-false}
use Rattle.std.specs.Bool.{⊤}
use Rattle.std.specs.Result.{IsErrAnd}
use Rattle.std.specs.declared.result.Result.{Result}
use Rattle.std.specs.declared.result.Result.TheVariants.{Err}
use Rattle.mesh.specs.Limits.{unused_mark, out_of_range, triangles_length}
use Rattle.mesh.specs.Paired.{Paired}
use Rattle.mesh.specs.Ladder.{first_of, NoneApplies, past}
use Rattle.mesh.specs.Verdict.{table_ladder, sized}
use Rattle.mesh.proofs.Tests.{and_true, and_of, and_false_left, and_false_right}
use Rattle.mesh.proofs.Limits.{in_range, range_in}
use Rattle.mesh.proofs.Ladder.{stands, falls, first_none, among, proper, above, first_above}
use Rattle.mesh.proofs.Verdict.{table_paired}
use Rattle.tables.specs.declared.refusal.Refusal.{Refusal}
use Rattle.tables.specs.Refusal.{number, number_met, leaves}
use Rattle.tables.specs.Checked.{twins_of}
use Rattle.tables.proofs.RefusalLaws.{number_above, met_once, left_filled, left_alone, left_marked}
use Rattle.triangles.specs.Table.{RightSizes}
use Rattle.triangles.specs.Checked.{triangles_say, TrianglesChecked, TrianglesDone}
use Rattle.tables.proofs.RungLaws.{handed}

-- a number of the triangles is 3 or more
pub table_number : (n : ℕ) (ts : List ℕ) → first_of (table_ladder n ts) ≢ 0 → 3 ≤ first_of (table_ladder n ts)
unfolding above
table_number n ts z = first_above 3 (table_ladder n ts) refl z

module _ (n : ℕ) (ts twins : List ℕ) where
  -- 1, then 2, then the triangles' own numbers
  pub says_1 : out_of_range n ≡ true → triangles_say n ts twins ≡ 1
  unfolding triangles_say
  says_1 e = stands 1 _ _ e

  says_2 : out_of_range n ≡ false → (eqb (length ts) (triangles_length n) && eqb (length twins) (triangles_length n)) ≡ false → triangles_say n ts twins ≡ 2
  unfolding triangles_say
  says_2 r e = falls 1 _ _ r ∙ stands 2 _ _ (ap not e)

  pub says_2_triangles : out_of_range n ≡ false → length ts ≢ triangles_length n → triangles_say n ts twins ≡ 2
  says_2_triangles r d = says_2 r (and_false_left _ _ (ne_eqb (length ts) (triangles_length n) d))

  pub says_2_twins : out_of_range n ≡ false → length twins ≢ triangles_length n → triangles_say n ts twins ≡ 2
  says_2_twins r d = says_2 r (and_false_right (eqb (length ts) (triangles_length n)) _ (ne_eqb (length twins) (triangles_length n) d))

  pub says_table : RightSizes n ts twins → triangles_say n ts twins ≡ first_of (table_ladder n ts)
  unfolding triangles_say
  says_table s =
      falls 1 _ _ (range_in n s.range) ∙
      falls 2 _ _
      (ap not (and_of _ _ (eq-eqb (length ts) (triangles_length n) s.triangles_length_holds) (eq-eqb (length twins) (triangles_length n) s.twins_length)))

  -- the ends that the contract allows
  module _ (r : Result ⊤ Refusal) where
    ends : (twins' : List ℕ) → number_met r ≡ triangles_say n ts twins → twins' ≡ leaves (number_met r) (twins_of ts) twins → TrianglesChecked n ts twins r twins'
    ends twins' says e = record { answer = says; reverses = e ∙ ap (λ (m : ℕ). leaves m (twins_of ts) twins) says }

    pub ends_alone : (e : Refusal) → IsErrAnd r (λ x. x ≡ e) → (k : ℕ) → number e ≡ k → triangles_say n ts twins ≡ k → k ≢ 0 → k < 3
        → TrianglesChecked n ts twins r twins
    ends_alone e h k is says d l =
        let m : number_met r ≡ k = ap number_met (handed h) ∙ is in
        ends twins (m ∙ sym says) (sym (left_alone (number_met r) (twins_of ts) twins (λ z. d (sym m ∙ z)) (omega arith)))

    -- past 1 and 2, refused: the table is marked; done: it holds the reverses
    module _ (s : RightSizes n ts twins) (is : number_met r ≡ first_of (table_ladder n ts)) where
      pub ends_marked : number_met r ≢ 0 → (twins' : List ℕ) → twins' ≡ replicate (length twins) unused_mark → TrianglesChecked n ts twins r twins'
      ends_marked d twins' e =
          let l : 3 ≤ number_met r = omega (arith, table_number n ts (λ z. d (is ∙ z))) in
          ends twins' (is ∙ sym (says_table s)) (e ∙ sym (left_marked (number_met r) (twins_of ts) twins l))

      pub ends_done : number_met r ≡ 0 → (twins' : List ℕ) → twins' ≡ twins_of ts → TrianglesChecked n ts twins r twins'
      ends_done z twins' e = ends twins' (is ∙ sym (says_table s)) (e ∙ sym (left_filled (number_met r) (twins_of ts) twins z))

module _ {n : ℕ} {ts twins : List ℕ} where
  -- two ends that it allows are equal
  pub triangles_once : {r s : Result ⊤ Refusal} {a b : List ℕ} → TrianglesChecked n ts twins r a → TrianglesChecked n ts twins s b → (r ≡ s) × (a ≡ b)
  triangles_once {r} {s} g h = (met_once r s (g.answer ∙ sym h.answer), g.reverses ∙ sym h.reverses)

  -- done: the sizes are right, no fault applies, and the reverse of each side was found
  pub triangles_done : {r : Result ⊤ Refusal} {twins' : List ℕ} → TrianglesChecked n ts twins r twins' → number_met r ≡ 0 → TrianglesDone n ts twins twins'
  unfolding triangles_say among proper
  triangles_done {r} {twins'} h d =
      let z : triangles_say n ts twins ≡ 0 = sym h.answer ∙ d in
      from_none (first_none (sized n (not (eqb (length ts) (triangles_length n) && eqb (length twins) (triangles_length n))) (table_ladder n ts)) refl z)
      (h.reverses ∙ left_filled (triangles_say n ts twins) (twins_of ts) twins z)
    where
      from_none : NoneApplies (sized n (not (eqb (length ts) (triangles_length n) && eqb (length twins) (triangles_length n))) (table_ladder n ts))
          → twins' ≡ twins_of ts → TrianglesDone n ts twins twins'
      from_none (past a (past b c)) e =
          let l = and_true (eqb (length ts) (triangles_length n)) (eqb (length twins) (triangles_length n)) (not-false _ b) in
          record {
            sizes = record {
              range = in_range n a;
              triangles_length_holds = eqb-true (length ts) (triangles_length n) l.0;
              twins_length = eqb-true (length twins) (triangles_length n) l.1;
            };
            clear = c;
            reverses = e;
          }

  pub done_paired : {twins' : List ℕ} → TrianglesDone n ts twins twins' → Paired n ts
  done_paired d = table_paired n ts d.sizes.triangles_length_holds d.clear

  -- refused although the sizes are right: by one of the triangles' numbers, and nothing but marks is left
  pub triangles_refused : {e : Refusal} {twins' : List ℕ} → TrianglesChecked n ts twins (Err e) twins' → RightSizes n ts twins
      → (first_of (table_ladder n ts) ≡ number e) × (3 ≤ number e) × (twins' ≡ replicate (length twins) unused_mark)
  triangles_refused {e} {twins'} h s =
      let is : number e ≡ first_of (table_ladder n ts) = h.answer ∙ says_table n ts twins s in
      let a = number_above e in
      let l : 3 ≤ number e = omega (arith, table_number n ts (λ z. omega arith)) in
      (sym is, l, h.reverses ∙ left_marked (triangles_say n ts twins) (twins_of ts) twins (rw h.answer at l))
