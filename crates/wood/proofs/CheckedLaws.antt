-- The check of a mesh, end by end: what 3 to 13 answer together, which ends the contract allows, that no two of them differ, and what
-- "done" and a refusal say to a caller.
use Prim.Native.Nat.{ℕ, ◌≤◌, ◌<◌}
use mathlib.Core.Path.{◌≡◌, refl, sym, ap, ◌∙◌}
use mathlib.Core.List.{List}
use mathlib.Core.Bool.{Bool, true, false, not, ◌&&◌}
use mathlib.Core.Logic.{◌≢◌}
use native.Mathlib.Omega.{arith}
use lib.ListN.{length, replicate}
use lib.Dec.{eqb}
use borrow.Author.Tests.{eqb-true, eq-eqb, not-false}
use Rattle.std.specs.Bool.{⊤}
use Rattle.std.specs.Result.{IsErrAnd}
use Rattle.std.specs.declared.result.Result.{Result}
use Rattle.std.specs.declared.result.Result.TheVariants.{Err}
use Rattle.mesh.specs.Limits.{unused_mark, out_of_range, triangles_length, wood_length}
use Rattle.mesh.specs.Sides.{third}
use Rattle.mesh.specs.Ladder.{first_of, NoneApplies, past}
use Rattle.mesh.specs.Verdict.{wrong_lengths, table_ladder, wood_ladder, sized, mesh_ladder}
use Rattle.mesh.proofs.Tests.{by_bool, and_true, and_of}
use Rattle.mesh.proofs.Limits.{in_range, range_in}
use Rattle.mesh.proofs.Ladder.{stands, falls, none_then, some_then, first_none, among, proper, above, first_above}
use Rattle.tables.specs.declared.refusal.Refusal.{Refusal}
use Rattle.tables.specs.Refusal.{number, number_met, leaves}
use Rattle.tables.specs.Checked.{twins_of, positions_of, Meshed}
use Rattle.tables.proofs.RefusalLaws.{number_above, met_once, left_filled, left_alone, left_marked}
use Rattle.tables.proofs.SidedLaws.{clear_meshed}
use Rattle.triangles.specs.Checked.{TrianglesChecked}
use Rattle.triangles.proofs.CheckedLaws.{says_table}
use Rattle.tables.proofs.RungLaws.{handed}
use Rattle.wood.specs.Checked.{mesh_lengths, MeshSizes, mesh_says, MeshJudged, MeshChecked, MeshDone}

-- 3 to 13, over tables of the right sizes.
module _ (n : ℕ) (ts ws twins positions : List ℕ) (S : MeshSizes n ts ws twins positions) (r : Result ⊤ Refusal) (twins' : List ℕ) (T : TrianglesChecked n ts twins r twins') where
  table_met : number_met r ≡ first_of (table_ladder n ts)
  table_met =
      T.answer ∙
      says_table n ts twins (record { range = S.range; triangles_length_holds = S.triangles_length_holds; twins_length = S.twins_length })

  pub judged_by_triangles : number_met r ≢ 0 → (positions' : List ℕ) → MeshJudged n ts ws r twins' positions'
  judged_by_triangles d positions' =
      record {
        answer = table_met ∙ sym (some_then (table_ladder n ts) (wood_ladder n (third ts) ws) (λ z. d (table_met ∙ z)));
        reverses = λ z. absurd (d z);
        edge_positions = λ z. absurd (d z);
      }

  -- the triangles are right: what the wood may rest on, and that it decides
  module _ (z : number_met r ≡ 0) where
    pub clear : first_of (table_ladder n ts) ≡ 0
    clear = sym table_met ∙ z

    pub reversed : twins' ≡ twins_of ts
    reversed = T.reverses ∙ left_filled _ (twins_of ts) twins (sym T.answer ∙ z)

    pub meshed : Meshed n ts
    meshed = clear_meshed n ts S.range S.triangles_length_holds clear

    pub judged_by_wood : (w : Result ⊤ Refusal) (positions' : List ℕ) → positions' ≡ positions_of n ts ws
        → number_met w ≡ first_of (wood_ladder n (third ts) ws) → MeshJudged n ts ws w twins' positions'
    unfolding among proper
    judged_by_wood w positions' f e =
        record {
          answer = e ∙ sym (none_then (wood_ladder n (third ts) ws) (first_none (table_ladder n ts) refl clear));
          reverses = λ _. reversed;
          edge_positions = λ _. f;
        }

-- a number of the mesh is 3 or more
mesh_number : (n : ℕ) (ts ws : List ℕ) → first_of (mesh_ladder n ts ws) ≢ 0 → 3 ≤ first_of (mesh_ladder n ts ws)
unfolding above
mesh_number n ts ws z = first_above 3 (mesh_ladder n ts ws) refl z

module _ (n : ℕ) (ts ws twins positions : List ℕ) where
  -- number 2 as the code asks it, of four lengths at once
  pub lengths_differ : {differ : Bool} {p q r s : ℕ} → p ≡ triangles_length n → q ≡ wood_length n → r ≡ triangles_length n → s ≡ wood_length n
      → differ ≡ not (eqb (length ts) p && (eqb (length ws) q && (eqb (length twins) r && (eqb (length positions) s && true))))
      → differ ≡ not (mesh_lengths n ts ws twins positions)
  lengths_differ a b c d e =
      e ∙ rw (a, b, c, d) (by_bool (eqb (length positions) (wood_length n)) (λ t. rw t) (λ t. rw t))

  -- past 1 and 2 the sizes are right, and 3 to 13 are left
  module _ (range : out_of_range n ≡ false) where
    says_2 : not (mesh_lengths n ts ws twins positions) ≡ true → mesh_says n ts ws twins positions ≡ 2
    unfolding mesh_says
    says_2 t = falls 1 _ _ range ∙ stands 2 _ _ t

    pub mesh_sizes : not (mesh_lengths n ts ws twins positions) ≡ false → MeshSizes n ts ws twins positions
    mesh_sizes t =
        let a = and_true (eqb (length ts) (triangles_length n)) _ (not-false _ t) in
        let b = and_true (eqb (length ws) (wood_length n)) _ a.1 in
        let c = and_true (eqb (length twins) (triangles_length n)) _ b.1 in
        record {
          range = in_range n range;
          triangles_length_holds = eqb-true (length ts) (triangles_length n) a.0;
          wood_length_holds = eqb-true (length ws) (wood_length n) b.0;
          twins_length = eqb-true (length twins) (triangles_length n) c.0;
          positions_length = eqb-true (length positions) (wood_length n) c.1;
        }

  pub says_mesh : MeshSizes n ts ws twins positions → mesh_says n ts ws twins positions ≡ first_of (mesh_ladder n ts ws)
  unfolding mesh_says
  says_mesh s =
      falls 1 _ _ (range_in n s.range) ∙
      falls 2 _ _
      (ap not
      (and_of _ _ (eq-eqb (length ts) (triangles_length n) s.triangles_length_holds)
      (and_of _ _ (eq-eqb (length ws) (wood_length n) s.wood_length_holds)
      (and_of _ _ (eq-eqb (length twins) (triangles_length n) s.twins_length) (eq-eqb (length positions) (wood_length n) s.positions_length)))))

  -- the ends that the contract allows: by 1, by 2, by a number of the mesh, done
  module _ (r : Result ⊤ Refusal) where
    ends : (twins' positions' : List ℕ) → number_met r ≡ mesh_says n ts ws twins positions
        → twins' ≡ leaves (number_met r) (twins_of ts) twins → positions' ≡ leaves (number_met r) (positions_of n ts ws) positions
        → MeshChecked n ts ws twins positions r twins' positions'
    ends twins' positions' says e f =
        record {
          answer = says;
          reverses = e ∙ ap (λ (m : ℕ). leaves m (twins_of ts) twins) says;
          edge_positions = f ∙ ap (λ (m : ℕ). leaves m (positions_of n ts ws) positions) says;
        }

    ends_alone : (e : Refusal) → IsErrAnd r (λ x. x ≡ e) → (k : ℕ) → number e ≡ k → mesh_says n ts ws twins positions ≡ k → k ≢ 0 → k < 3
        → MeshChecked n ts ws twins positions r twins positions
    ends_alone e h k is says d l =
        let m : number_met r ≡ k = ap number_met (handed h) ∙ is in
        let w : number_met r ≢ 0 = λ z. d (sym m ∙ z) in
        ends twins positions (m ∙ sym says) (sym (left_alone (number_met r) (twins_of ts) twins w (omega arith)))
        (sym (left_alone (number_met r) (positions_of n ts ws) positions w (omega arith)))

    pub ends_1 : (e : Refusal) → IsErrAnd r (λ x. x ≡ e) → (out_of_range n ≡ true) × (number e ≡ 1) → MeshChecked n ts ws twins positions r twins positions
    unfolding mesh_says
    ends_1 e h t = ends_alone e h 1 t.1 (stands 1 _ _ t.0) (λ z. omega arith) (omega arith)

    pub ends_2 : out_of_range n ≡ false → (e : Refusal) → IsErrAnd r (λ x. x ≡ e)
        → (not (mesh_lengths n ts ws twins positions) ≡ true) × (number e ≡ 2) → MeshChecked n ts ws twins positions r twins positions
    ends_2 range e h t = ends_alone e h 2 t.1 (says_2 range t.0) (λ z. omega arith) (omega arith)

    module _ (S : MeshSizes n ts ws twins positions) (twins' positions' : List ℕ) (J : MeshJudged n ts ws r twins' positions') where
      pub ends_done : number_met r ≡ 0 → MeshChecked n ts ws twins positions r twins' positions'
      ends_done z =
          ends twins' positions' (J.answer ∙ sym (says_mesh S)) (J.reverses z ∙ sym (left_filled (number_met r) (twins_of ts) twins z))
          (J.edge_positions z ∙ sym (left_filled (number_met r) (positions_of n ts ws) positions z))

      -- what was written is marked
      pub ends_marked : number_met r ≢ 0 → (twins'' positions'' : List ℕ) → length twins' ≡ length twins → length positions' ≡ length positions
          → twins'' ≡ replicate (length twins') unused_mark → positions'' ≡ replicate (length positions') unused_mark
          → MeshChecked n ts ws twins positions r twins'' positions''
      ends_marked d twins'' positions'' g h e f =
          let a = J.answer in
          let l : 3 ≤ number_met r = omega (arith, mesh_number n ts ws (λ z. d (a ∙ z))) in
          ends twins'' positions'' (a ∙ sym (says_mesh S))
          (e ∙ ap (λ (m : ℕ). replicate m unused_mark) g ∙ sym (left_marked (number_met r) (twins_of ts) twins l))
          (f ∙ ap (λ (m : ℕ). replicate m unused_mark) h ∙ sym (left_marked (number_met r) (positions_of n ts ws) positions l))

module _ {n : ℕ} {ts ws twins positions : List ℕ} where
  -- two ends that it allows are equal
  pub mesh_once : {r s : Result ⊤ Refusal} {a b c d : List ℕ} → MeshChecked n ts ws twins positions r a b → MeshChecked n ts ws twins positions s c d
      → (r ≡ s) × (a ≡ c) × (b ≡ d)
  mesh_once {r} {s} g h = (met_once r s (g.answer ∙ sym h.answer), g.reverses ∙ sym h.reverses, g.edge_positions ∙ sym h.edge_positions)

  -- done: no fault applies, and both outputs are filled
  pub mesh_done : {r : Result ⊤ Refusal} {twins' positions' : List ℕ} → MeshChecked n ts ws twins positions r twins' positions' → number_met r ≡ 0
      → MeshDone n ts ws twins' positions'
  unfolding mesh_says among proper wrong_lengths
  mesh_done {r} {twins'} {positions'} h d =
      let z : mesh_says n ts ws twins positions ≡ 0 = sym h.answer ∙ d in
      from_none (first_none (sized n (not (mesh_lengths n ts ws twins positions)) (mesh_ladder n ts ws)) refl z)
      (h.reverses ∙ left_filled (mesh_says n ts ws twins positions) (twins_of ts) twins z)
      (h.edge_positions ∙ left_filled (mesh_says n ts ws twins positions) (positions_of n ts ws) positions z)
    where
      from_none : NoneApplies (sized n (not (mesh_lengths n ts ws twins positions)) (mesh_ladder n ts ws))
          → twins' ≡ twins_of ts → positions' ≡ positions_of n ts ws → MeshDone n ts ws twins' positions'
      from_none (past a (past b c)) e f =
          let s = mesh_sizes n ts ws twins positions a b in
          record {
            clear =
                past a
                (past
                (ap not
                (and_of _ _ (eq-eqb (length ts) (triangles_length n) s.triangles_length_holds) (eq-eqb (length ws) (wood_length n) s.wood_length_holds))) c);
            reverses = e;
            edge_positions = f;
          }

  -- refused although the sizes are right: by one of the mesh's own numbers
  pub mesh_refused : {e : Refusal} {twins' positions' : List ℕ} → MeshChecked n ts ws twins positions (Err e) twins' positions'
      → MeshSizes n ts ws twins positions → (first_of (mesh_ladder n ts ws) ≡ number e) × (3 ≤ number e)
  mesh_refused {e} h s =
      let is : number e ≡ first_of (mesh_ladder n ts ws) = h.answer ∙ says_mesh n ts ws twins positions s in
      let a = number_above e in
      (sym is, omega (arith, mesh_number n ts ws (λ z. omega arith)))
