-- Number 8 at a vertex v, by sides and their count: v is in no triangle, or a turn does not meet all its triangles, exactly when no
-- side leaves v, or a turn from a side that does is back before it met as many sides as leave v. The definition starts at the lowest
-- neighbour and goes by neighbours; a turn by positions goes to the same neighbours, and any start serves.
use Prim.Native.Nat.{ℕ, zero, suc, ◌+◌, ◌-◌, ◌≤◌, ◌<◌}
use mathlib.Core.Path.{◌≡◌, refl, sym, ap, ◌∙◌}
use mathlib.Core.List.{List}
use mathlib.Core.Bool.{true, false, not, ◌&&◌}
use mathlib.Core.Logic.{◌≢◌}
use native.Mathlib.Omega.{arith}
use lib.ListN.{length}
use lib.Dec.{eqb}
use borrow.Author.Tests.{ltb-true, eqb-true, eqb-false, eq-eqb}
use Rattle.mesh.specs.Search.{first, some, iterate}
use Rattle.mesh.specs.Limits.{unused_mark}
use Rattle.mesh.specs.Sides.{next, from, to, side_at, third, is_neighbour, first_neighbour, meets}
use Rattle.mesh.specs.Verdict.{turn_fault}
use Rattle.mesh.specs.Paired.{Paired, turn}
use Rattle.mesh.proofs.Tests.{by_bool, clash, same_test, and_of, or_false, or_none, or_left, and_false_right}
use Rattle.mesh.proofs.Search.{first_law, some_at, some_of, some_none, none_some, some_cong, some_is}
use Rattle.mesh.proofs.Count.{count_lt, count_inj, count_all}
use Rattle.mesh.proofs.Positions.{side_at_law}
use Rattle.mesh.proofs.Paired.{turn_in, turn_inj, turn_from, turns_in, turns_from, turns_to, simple, to_in, side_is, neighbour_side, side_neighbour, next_within}
use Rattle.tables.specs.Checked.{TwinTable}
use Rattle.tables.specs.Turning.{turn_in_table}
use Rattle.triangles.specs.declared.round.Spokes.{Spokes}
use Rattle.triangles.specs.Turns.{is_from, degree, back_early, turn_broken, spokes_at, Tally}
use Rattle.triangles.proofs.OrbitLaws.{meets_all, misses_one, any_start}

module _ (n : ℕ) (ts : List ℕ) (P : Paired n ts) (few : n ≤ unused_mark) (v : ℕ) where
  turn_keeps : (p : ℕ) → p < length ts → is_from ts v p ≡ true → is_from ts v (turn ts p) ≡ true
  turn_keeps p l t = eq-eqb (from ts (turn ts p)) v (turn_from n ts P p l ∙ eqb-true (from ts p) v t)

  -- no more sides leave v than there are vertices
  degree_le : degree ts v ≤ n
  degree_le =
      let a =
      count_inj (length ts) n (to ts) (is_from ts v) (λ k. true) (λ x l t. (to_in n ts P x l, refl))
      (λ x y l g t u e. simple n ts P x y l g (eqb-true (from ts x) v t ∙ sym (eqb-true (from ts y) v u)) e) in
      let b = count_all n in
      omega arith

  -- a side that leaves v goes to a neighbour, and a neighbour has its side
  goes_to : (p : ℕ) → p < length ts → from ts p ≡ v → is_neighbour n (third ts) v (to ts p) ≡ true
  goes_to p l e = side_neighbour n ts P v (to ts p) (rw (side_is n ts P v (to ts p) p l e refl) l)

  some_neighbour : (p : ℕ) → p < length ts → from ts p ≡ v → some (is_neighbour n (third ts) v) n ≡ true
  some_neighbour p l e = some_of (is_neighbour n (third ts) v) n (to ts p) (to_in n ts P p l) (goes_to p l e)

  -- The side to the lowest neighbour, where there is one.
  module _ (has : some (is_neighbour n (third ts) v) n ≡ true) where
    lowest : ℕ
    lowest = side_at ts v (first_neighbour n (third ts) v)

    lowest_in : lowest < length ts
    unfolding lowest first_neighbour
    lowest_in =
        let l : first (is_neighbour n (third ts) v) n < n = ltb-true (first (is_neighbour n (third ts) v) n) n (sym (some_is (is_neighbour n (third ts) v) n) ∙ has) in
        neighbour_side n ts P few v (first_neighbour n (third ts) v) ((first_law (is_neighbour n (third ts) v) n).hit l)

    lowest_from : from ts lowest ≡ v
    unfolding lowest
    lowest_from = (side_at_law ts v (first_neighbour n (third ts) v) lowest_in).0

    lowest_to : to ts lowest ≡ first_neighbour n (third ts) v
    unfolding lowest
    lowest_to = (side_at_law ts v (first_neighbour n (third ts) v) lowest_in).1

    -- by positions and by neighbours
    round_to : (k : ℕ) → to ts (iterate (turn ts) k lowest) ≡ iterate (third ts v) k (first_neighbour n (third ts) v)
    round_to k =
        turns_to n ts P k lowest lowest_in ∙ ap (λ (x : ℕ). iterate (third ts x) k (to ts lowest)) lowest_from ∙
        ap (iterate (third ts v) k) lowest_to

    all_met : some (λ b. is_neighbour n (third ts) v b && not (meets n (third ts) v b)) n ≡ false
        → (q : ℕ) → q < length ts → is_from ts v q ≡ true → (k : ℕ) × (iterate (turn ts) k lowest ≡ q)
    unfolding meets
    all_met h q l t =
        let e : from ts q ≡ v = eqb-true (from ts q) v t in
        let b : ℕ = to ts q in
        let m : meets n (third ts) v b ≡ true =
        by_bool (meets n (third ts) v b) (λ u. u)
        (λ u. clash (is_neighbour n (third ts) v b && not (meets n (third ts) v b))
        (and_of (is_neighbour n (third ts) v b) (not (meets n (third ts) v b)) (goes_to q l e) (rw u))
        (some_none (λ b. is_neighbour n (third ts) v b && not (meets n (third ts) v b)) n h b (to_in n ts P q l))) in
        let s = some_at (λ k. eqb (iterate (third ts v) k (first_neighbour n (third ts) v)) b) n m in (
          s.0,
          simple n ts P (iterate (turn ts) s.0 lowest) q (turns_in n ts P s.0 lowest lowest_in) l
              (turns_from n ts P s.0 lowest lowest_in ∙ lowest_from ∙ sym e)
              (round_to s.0 ∙ eqb-true (iterate (third ts v) s.0 (first_neighbour n (third ts) v)) b s.2),
        )

    all_met_back : back_early (turn ts) lowest (degree ts v) ≡ false
        → (b : ℕ) → b < n → (is_neighbour n (third ts) v b && not (meets n (third ts) v b)) ≡ false
    unfolding meets
    all_met_back h b l =
        by_bool (is_neighbour n (third ts) v b)
        (λ t.
        let q : ℕ = side_at ts v b in
        let lq : q < length ts = neighbour_side n ts P few v b t in
        let s = side_at_law ts v b lq in
        let k =
        meets_all (turn ts) (length ts) (is_from ts v) (turn_in n ts P) (turn_inj n ts P) turn_keeps lowest q lowest_in
        (eq-eqb (from ts lowest) v lowest_from) h lq (eq-eqb (from ts q) v s.0) in
        let lk : k.0 < degree ts v = k.1 in
        let ln = degree_le in
        let m : meets n (third ts) v b ≡ true =
        some_of (λ k. eqb (iterate (third ts v) k (first_neighbour n (third ts) v)) b) n k.0 (omega arith)
        (eq-eqb (iterate (third ts v) k.0 (first_neighbour n (third ts) v)) b (sym (round_to k.0) ∙ ap (to ts) k.2 ∙ s.1)) in
        and_false_right (is_neighbour n (third ts) v b) (not (meets n (third ts) v b)) (rw m))
        (λ t. rw t)

  fault_if_none : degree ts v ≡ 0 → turn_fault n (third ts) v ≡ true
  unfolding turn_fault
  fault_if_none z =
      by_bool (some (is_neighbour n (third ts) v) n)
      (λ t.
      let c = count_lt (is_from ts v) (length ts) (lowest t) (lowest_in t) (eq-eqb (from ts (lowest t)) v (lowest_from t)) in
      absurd (omega arith))
      (λ t. or_left (not (some (is_neighbour n (third ts) v) n)) _ (rw t))

  fault_is_early : (p : ℕ) → p < length ts → from ts p ≡ v → turn_fault n (third ts) v ≡ back_early (turn ts) p (degree ts v)
  unfolding turn_fault
  fault_is_early p l e =
      let has = some_neighbour p l e in
      let lo : ℕ = lowest has in
      let tp : is_from ts v p ≡ true = eq-eqb (from ts p) v e in
      let tl : is_from ts v lo ≡ true = eq-eqb (from ts lo) v (lowest_from has) in
      let start = any_start (turn ts) (length ts) (is_from ts v) (turn_in n ts P) (turn_inj n ts P) turn_keeps in
      same_test (turn_fault n (third ts) v) (back_early (turn ts) p (degree ts v))
      (λ t. by_bool (back_early (turn ts) p (degree ts v)) (λ u. u)
      (λ u. clash (turn_fault n (third ts) v) t
      (or_none (not (some (is_neighbour n (third ts) v) n)) _ (rw has)
      (none_some (λ b. is_neighbour n (third ts) v b && not (meets n (third ts) v b)) n
      (all_met_back has (start p lo l (lowest_in has) tp tl u))))))
      (λ t. by_bool (turn_fault n (third ts) v) (λ u. u)
      (λ u.
      let o = or_false (not (some (is_neighbour n (third ts) v) n)) _ u in
      let b : back_early (turn ts) lo (degree ts v) ≡ false =
      by_bool (back_early (turn ts) lo (degree ts v))
      (λ z. absurd (misses_one (turn ts) (length ts) (is_from ts v) (turn_in n ts P) (turn_inj n ts P) turn_keeps lo z (all_met has o.1)))
      (λ z. z) in
      clash (back_early (turn ts) p (degree ts v)) t (start lo p (lowest_in has) l tl tp b)))

  -- the same by the table of twins: a walk that reads it goes where the turn goes
  module _ (twins : List ℕ) (T : TwinTable ts twins) where
    steps_same : (k p : ℕ) → p < length ts → iterate (turn_in_table twins) k p ≡ iterate (turn ts) k p
    unfolding iterate turn
    steps_same zero p l = refl
    steps_same (suc k) p l =
        ap (turn_in_table twins) (steps_same k p l) ∙
        T (next (next (iterate (turn ts) k p)))
        (next_within n ts P (next (iterate (turn ts) k p)) (next_within n ts P (iterate (turn ts) k p) (turns_in n ts P k p l)))

    early_same : (p d : ℕ) → p < length ts → back_early (turn_in_table twins) p d ≡ back_early (turn ts) p d
    unfolding back_early
    early_same p d l =
        some_cong (λ i. eqb (iterate (turn_in_table twins) (1 + i) p) p) (λ i. eqb (iterate (turn ts) (1 + i) p) p) (d - 1)
        (λ i _. ap (λ (x : ℕ). eqb x p) (steps_same (1 + i) p l))

    turn_fault_holds : (p d : ℕ) → d ≡ degree ts v → (0 < degree ts v → (p < length ts) × (from ts p ≡ v))
        → turn_broken twins p d ≡ turn_fault n (third ts) v
    turn_fault_holds p d e h =
        by_bool (eqb d 0)
        (λ t.
        let z : d ≡ 0 = eqb-true d 0 t in
        rw t (sym (fault_if_none (sym e ∙ z))))
        (λ t.
        let z : d ≢ 0 = eqb-false d 0 t in
        let s = h (omega arith) in
        rw t (early_same p d s.0 ∙ ap (back_early (turn ts) p) e ∙ sym (fault_is_early p s.0 s.1)))

-- number 8, over all vertices
pub turn_faults : (n : ℕ) (ts twins : List ℕ) (spokes : List Spokes) → Paired n ts → n ≤ unused_mark → TwinTable ts twins
    → n ≤ length spokes → Tally ts (length ts) spokes
    → some (λ v. turn_broken twins (spokes_at spokes v).start (spokes_at spokes v).degree) n ≡ some (turn_fault n (third ts)) n
turn_faults n ts twins spokes P few T l h =
    some_cong (λ v. turn_broken twins (spokes_at spokes v).start (spokes_at spokes v).degree) (turn_fault n (third ts)) n
    (λ v g. turn_fault_holds n ts P few v twins T (spokes_at spokes v).start (spokes_at spokes v).degree (h.counted v (omega arith)) (h.start v (omega arith)))
