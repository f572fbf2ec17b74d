-- The questions put to the array of an accepted mesh: each edge j has a position p at which it goes out, its Fronts and Backs are
-- read as the triangles give them (`front_answer_holds`, `back_answer_holds`), and Target answers its target in fewer reads than that has
-- neighbours (`target_found`).
use Prim.Native.Nat.{ℕ, suc, ◌+◌, ◌-◌, ◌*◌, ◌≤◌, ◌<◌}
use mathlib.Core.Path.{◌≡◌, refl, sym, ap, ◌∙◌, subst}
use mathlib.Core.List.{List, [], ◌∷◌}
use mathlib.Core.Bool.{true, cond}
use mathlib.Core.Logic.{◌≢◌}
use native.Mathlib.Omega.{arith}
use lib.ListN.{length}
use lib.Dec.{ltb, eqb}
use borrow.Author.Tests.{ltb-true, eqb-true, eqb-false}
use Rattle.mesh.specs.Search.{iterate}
use Rattle.mesh.specs.Limits.{at, most_service}
use Rattle.mesh.specs.Sides.{next, from, to, side_at, third, is_neighbour, neighbours}
use Rattle.mesh.specs.Wood.{out, source, colour, target, used, is_edge, edge_by, edge_at}
use Rattle.mesh.specs.Array.{Hand, left, right, front_place, front, back, same_source, references_of, service_of}
use Rattle.mesh.specs.Reading.{fronts_in, bytes_in, edge_answer, front_answer, bit_of, outer_back, inner_back, back_answer, walk, target_answer}
use Rattle.mesh.proofs.Tests.{by_bool, and_true}
use Rattle.mesh.proofs.Count.{count_inj}
use Rattle.mesh.proofs.Positions.{side_at_law, next_3}
use Rattle.mesh.specs.Paired.{twin}
use Rattle.mesh.proofs.Paired.{side_is, side_neighbour, simple, third_is}
use Rattle.mesh.specs.Verdict.{Clear}
use Rattle.mesh.proofs.Walk.{walk_stops}
use Rattle.theorems.proofs.Rotation.{degree, turn, turn_back, turn_in, turn_back_in, turns_back_in}
use Rattle.theorems.proofs.Marked.{label_between, is_out, is_into, inside, inside6, e3, e6, e7, three}
use Rattle.theorems.proofs.Accepted.{pairs, surface, marked, edge_in}
use Rattle.theorems.proofs.Fronts.{colours, label_here, edge_here, edge_is_edge, front_left, front_right, back_left, back_right, reference_at_holds, service_at_holds}
use Rattle.theorems.proofs.Back.{answers, left_back, right_back}
use Rattle.theorems.proofs.Target.{Walked, walked, steps, degree_less, stopping_side}

-- bits of a service byte
bit_left : (a b : ℕ) → a ≤ 1 → bit_of left (a + 2 * b) ≡ a
bit_left a b l = omega arith

bit_right : (a b : ℕ) → a ≤ 1 → b ≤ 1 → bit_of right (a + 2 * b) ≡ b
bit_right a b l g = omega arith

pub is_bit : (h : Hand) (x : ℕ → ℕ → ℕ) (ws : List ℕ) (j : ℕ) → same_source h x ws j ≤ 1
unfolding same_source
is_bit h x ws j = by_bool (eqb (source (back h x ws j)) (source j)) (λ t. rw t (omega arith)) (λ t. rw t (omega arith))

module _ (n : ℕ) (ts ws : List ℕ) (A : Clear n ts ws) where
  -- an edge's position, at which it goes out
  pub record Stands (j : ℕ) : Type 0 where
    pub position : ℕ
    pub within : position < length ts
    pub starts : from ts position ≡ source j
    pub ends : to ts position ≡ target ws j
    pub goes_out : label_here n ts ws A position ≡ out (colour j)
    pub named : 3 * from ts position + colour j ≡ j

  pub stands : (j : ℕ) → used j ≡ true → j < 3 * n → Stands j
  stands j u l =
      let p : ℕ = side_at ts (source j) (target ws j) in
      let i : p < length ts = edge_in n ts ws A j u l in
      let s = side_at_law ts (source j) (target ws j) i in
      let P = pairs n ts ws A in
      let b : target ws j < n = subst (λ x. x < n) s.1 ((marked n ts ws A).corner (next p) ((surface n ts ws A).next_in p i)) in
      let e : 3 * source j + colour j ≡ j = omega arith in
      record {
        position = p;
        within = i;
        starts = s.0;
        ends = s.1;
        goes_out =
            label_between (surface n ts ws A) n ws (marked n ts ws A) p (source j) (target ws j) s.0 s.1 ∙
            is_out (surface n ts ws A) n ws (marked n ts ws A) (source j) (target ws j) (colour j) (omega arith) b (omega arith) (ap (target ws) e);
        named = rw s.0 e;
      }

  -- what the array holds, by positions
  edge_of_out : (p c : ℕ) → label_here n ts ws A p ≡ out c → edge_here n ts ws A p ≡ 3 * from ts p + c
  edge_of_out p c e = ap (edge_by (from ts p) (to ts p)) e

  used_out : (p c : ℕ) → p < length ts → label_here n ts ws A p ≡ out c → (used (3 * from ts p + c) ≡ true) × (3 * from ts p + c < 3 * n)
  used_out p c l e =
      let t : is_edge n (3 * from ts p + c) ≡ true = ap (is_edge n) (sym (edge_of_out p c e)) ∙ edge_is_edge n ts ws A p l in
      let u = and_true (used (3 * from ts p + c)) (ltb (3 * from ts p + c) (3 * n)) t in
      (u.0, ltb-true (3 * from ts p + c) (3 * n) u.1)

  pub reads_left : (p c : ℕ) → p < length ts → label_here n ts ws A p ≡ out c
      → at (references_of n ts ws) (front_place left (3 * from ts p + c)) ≡ edge_here n ts ws A (next p)
  reads_left p c l e =
      let u = used_out p c l e in
      reference_at_holds n ts ws left (3 * from ts p + c) u.0 u.1 ∙ front_left n ts ws A p c l e

  pub reads_right : (p c : ℕ) → p < length ts → label_here n ts ws A p ≡ out c
      → at (references_of n ts ws) (front_place right (3 * from ts p + c)) ≡ edge_here n ts ws A (turn (surface n ts ws A) (twin ts p))
  reads_right p c l e =
      let u = used_out p c l e in
      reference_at_holds n ts ws right (3 * from ts p + c) u.0 u.1 ∙ front_right n ts ws A p c l e

  -- Fronts
  front_is_edge : (h : Hand) (j : ℕ) → used j ≡ true → j < 3 * n → is_edge n (front h (third ts) ws j) ≡ true
  front_is_edge left j u l =
      let s = stands j u l in
      let p : ℕ = s.position in
      let e : front left (third ts) ws j ≡ edge_here n ts ws A (next p) =
      ap (front left (third ts) ws) (sym s.named) ∙ front_left n ts ws A p (colour j) s.within s.goes_out in
      ap (is_edge n) e ∙ edge_is_edge n ts ws A (next p) ((surface n ts ws A).next_in p s.within)
  front_is_edge right j u l =
      let s = stands j u l in
      let p : ℕ = s.position in
      let q : ℕ = turn (surface n ts ws A) (twin ts p) in
      let e : front right (third ts) ws j ≡ edge_here n ts ws A q =
      ap (front right (third ts) ws) (sym s.named) ∙ front_right n ts ws A p (colour j) s.within s.goes_out in
      ap (is_edge n) e ∙ edge_is_edge n ts ws A q (turn_in (surface n ts ws A) (twin ts p) ((pairs n ts ws A).twin_in p s.within))

  pub front_answer_holds : (h : Hand) (j : ℕ) → used j ≡ true → j < 3 * n
      → front_answer h n (fronts_in (references_of n ts ws)) j ≡ 0 ∷ front h (third ts) ws j ∷ []
  unfolding front_answer
  front_answer_holds h j u l =
      ap (edge_answer n) (reference_at_holds n ts ws h j u l) ∙ answers h n (fronts_in (references_of n ts ws)) (front h (third ts) ws j) (front_is_edge h j u l)

  -- Backs
  pub back_is_edge : (h : Hand) (j : ℕ) → used j ≡ true → j < 3 * n → is_edge n (back h (third ts) ws j) ≡ true
  back_is_edge left j u l =
      let s = stands j u l in
      let p : ℕ = s.position in
      let e : back left (third ts) ws j ≡ edge_here n ts ws A (turn (surface n ts ws A) p) =
      ap (back left (third ts) ws) (sym s.named) ∙ back_left n ts ws A p (colour j) s.within s.goes_out in
      ap (is_edge n) e ∙ edge_is_edge n ts ws A (turn (surface n ts ws A) p) (turn_in (surface n ts ws A) p s.within)
  back_is_edge right j u l =
      let s = stands j u l in
      let p : ℕ = s.position in
      let e : back right (third ts) ws j ≡ edge_here n ts ws A (turn_back (surface n ts ws A) p) =
      ap (back right (third ts) ws) (sym s.named) ∙ back_right n ts ws A p (colour j) s.within s.goes_out in
      ap (is_edge n) e ∙ edge_is_edge n ts ws A (turn_back (surface n ts ws A) p) (turn_back_in (surface n ts ws A) p s.within)

  byte_few : (j : ℕ) → used j ≡ true → j < 3 * n → at (service_of n ts ws) j ≤ most_service
  byte_few j u l =
      let a = service_at_holds n ts ws j u l in
      let b = is_bit left (third ts) ws j in
      let c = is_bit right (third ts) ws j in
      omega arith

  byte_bit : (h : Hand) (j : ℕ) → used j ≡ true → j < 3 * n → bit_of h (at (service_of n ts ws) j) ≡ same_source h (third ts) ws j
  byte_bit left j u l =
      ap (bit_of left) (service_at_holds n ts ws j u l) ∙ bit_left (same_source left (third ts) ws j) (same_source right (third ts) ws j) (is_bit left (third ts) ws j)
  byte_bit right j u l =
      ap (bit_of right) (service_at_holds n ts ws j u l) ∙
      bit_right (same_source left (third ts) ws j) (same_source right (third ts) ws j) (is_bit left (third ts) ws j) (is_bit right (third ts) ws j)

  -- Off the outer triangle the colour law reads a Back.
  inner_left : (j : ℕ) → used j ≡ true → j < 3 * n → j ≢ 3 → j ≢ 7
      → inner_back left n (fronts_in (references_of n ts ws)) (at (service_of n ts ws) j) j ≡ 0 ∷ back left (third ts) ws j ∷ []
  unfolding same_source
  inner_left j u l n3 n7 =
      let s = stands j u l in
      let p : ℕ = s.position in
      let c : ℕ = colour j in
      let R = surface n ts ws A in
      let e : back left (third ts) ws j ≡ edge_here n ts ws A (turn R p) =
      ap (back left (third ts) ws) (sym s.named) ∙ back_left n ts ws A p c s.within s.goes_out in
      let o = inside R n ws (marked n ts ws A) p c s.within s.goes_out (λ q. n3 (sym s.named ∙ q)) (λ q. n7 (sym s.named ∙ q)) in
      let bit : bit_of left (at (service_of n ts ws) j) ≡ cond (eqb (source (edge_here n ts ws A (turn R p))) (from ts p)) 1 0 =
      byte_bit left j u l ∙ rw (e, s.starts) in
      ap (inner_back left n (fronts_in (references_of n ts ws)) (at (service_of n ts ws) j)) (sym s.named) ∙
      (left_back R (colours n ts ws A) n (fronts_in (references_of n ts ws)) (edge_is_edge n ts ws A) reads_left p c (at (service_of n ts ws) j) s.within o s.goes_out
      (byte_few j u l) bit ∙ ap (λ x. 0 ∷ x ∷ []) (sym e))

  inner_right : (j : ℕ) → used j ≡ true → j < 3 * n → j ≢ 6
      → inner_back right n (fronts_in (references_of n ts ws)) (at (service_of n ts ws) j) j ≡ 0 ∷ back right (third ts) ws j ∷ []
  unfolding same_source
  inner_right j u l n6 =
      let s = stands j u l in
      let p : ℕ = s.position in
      let c : ℕ = colour j in
      let R = surface n ts ws A in
      let e : back right (third ts) ws j ≡ edge_here n ts ws A (turn_back R p) =
      ap (back right (third ts) ws) (sym s.named) ∙ back_right n ts ws A p c s.within s.goes_out in
      let o = inside6 R n ws (marked n ts ws A) p c s.within s.goes_out (λ q. n6 (sym s.named ∙ q)) in
      let bit : bit_of right (at (service_of n ts ws) j) ≡ cond (eqb (source (edge_here n ts ws A (turn_back R p))) (from ts p)) 1 0 =
      byte_bit right j u l ∙ rw (e, s.starts) in
      ap (inner_back right n (fronts_in (references_of n ts ws)) (at (service_of n ts ws) j)) (sym s.named) ∙
      (right_back R (colours n ts ws A) n (fronts_in (references_of n ts ws)) (edge_is_edge n ts ws A) reads_right p c (at (service_of n ts ws) j) s.within o s.goes_out
      (byte_few j u l) bit ∙ ap (λ x. 0 ∷ x ∷ []) (sym e))

  -- The outer triangle: its third corners, and the edges between anchors.
  third_0_2 : third ts 0 2 ≡ 1
  third_0_2 =
      let M = marked n ts ws A in
      third_is n ts (pairs n ts ws A) 0 2 M.outer_at M.outer_in M.outer_0 M.outer_2 ∙ M.outer_1

  third_2_1 : third ts 2 1 ≡ 0
  third_2_1 =
      let M = marked n ts ws A in
      let o = M.outer_at in
      third_is n ts (pairs n ts ws A) 2 1 (next o) ((surface n ts ws A).next_in o M.outer_in) M.outer_2 M.outer_1 ∙ (ap (from ts) (next_3 o) ∙ M.outer_0)

  third_1_0 : third ts 1 0 ≡ 2
  third_1_0 =
      let M = marked n ts ws A in
      let R = surface n ts ws A in
      let o = M.outer_at in
      third_is n ts (pairs n ts ws A) 1 0 (next (next o)) (R.next_in (next o) (R.next_in o M.outer_in)) M.outer_1 (ap (from ts) (next_3 o) ∙ M.outer_0) ∙
      (ap (λ x. from ts (next x)) (next_3 o) ∙ M.outer_2)

  joins_1_2 : edge_at ws 1 2 ≡ 7
  unfolding edge_at
  joins_1_2 =
      let k = three (surface n ts ws A) n ws (marked n ts ws A) in
      rw (is_into (surface n ts ws A) n ws (marked n ts ws A) 2 1 1 (omega arith) (omega arith) (omega arith) (e7 (surface n ts ws A) n ws (marked n ts ws A)))

  joins_2_1 : edge_at ws 2 1 ≡ 7
  unfolding edge_at
  joins_2_1 =
      let k = three (surface n ts ws A) n ws (marked n ts ws A) in
      rw (is_out (surface n ts ws A) n ws (marked n ts ws A) 2 1 1 (omega arith) (omega arith) (omega arith) (e7 (surface n ts ws A) n ws (marked n ts ws A)))

  joins_2_0 : edge_at ws 2 0 ≡ 6
  unfolding edge_at
  joins_2_0 =
      let k = three (surface n ts ws A) n ws (marked n ts ws A) in
      rw (is_out (surface n ts ws A) n ws (marked n ts ws A) 2 0 0 (omega arith) (omega arith) (omega arith) (e6 (surface n ts ws A) n ws (marked n ts ws A)))

  left_of_3 : back left (third ts) ws 3 ≡ 7
  unfolding back
  left_of_3 = rw (e3 (surface n ts ws A) n ws (marked n ts ws A), third_1_0) joins_1_2

  left_of_7 : back left (third ts) ws 7 ≡ 6
  unfolding back
  left_of_7 = rw (e7 (surface n ts ws A) n ws (marked n ts ws A), third_2_1) joins_2_0

  right_of_6 : back right (third ts) ws 6 ≡ 7
  unfolding back
  right_of_6 = rw (e6 (surface n ts ws A) n ws (marked n ts ws A), third_0_2) joins_2_1

  pub back_answer_holds : (h : Hand) (j : ℕ) → used j ≡ true → j < 3 * n
      → back_answer h n (fronts_in (references_of n ts ws)) (bytes_in (service_of n ts ws)) j ≡ 0 ∷ back h (third ts) ws j ∷ []
  unfolding back_answer outer_back
  back_answer_holds left j u l =
      by_bool (eqb j 3) (λ t. rw t (ap (λ x. 0 ∷ x ∷ []) (sym (ap (back left (third ts) ws) (eqb-true j 3 t) ∙ left_of_3))))
      (λ t. by_bool (eqb j 7) (λ v. rw (t, v) (ap (λ x. 0 ∷ x ∷ []) (sym (ap (back left (third ts) ws) (eqb-true j 7 v) ∙ left_of_7))))
      (λ v. rw (t, v) (inner_left j u l (eqb-false j 3 t) (eqb-false j 7 v))))
  back_answer_holds right j u l =
      by_bool (eqb j 6) (λ t. rw t (ap (λ x. 0 ∷ x ∷ []) (sym (ap (back right (third ts) ws) (eqb-true j 6 t) ∙ right_of_6))))
      (λ t. rw t (inner_right j u l (eqb-false j 6 t)))

  -- Target. A vertex has as many sides as neighbours.
  sides_neighbours : (v : ℕ) → degree (surface n ts ws A) v ≤ neighbours n (third ts) v
  unfolding degree neighbours
  sides_neighbours v =
      count_inj (length ts) n (to ts) (λ p. eqb (from ts p) v) (is_neighbour n (third ts) v)
      (λ p lp e.
      let P = pairs n ts ws A in (
        (marked n ts ws A).corner (next p) ((surface n ts ws A).next_in p lp),
        side_neighbour n ts P v (to ts p) (rw (side_is n ts P v (to ts p) p lp (eqb-true (from ts p) v e) refl) lp),
      ))
      (λ p q lp lq e f z. simple n ts (pairs n ts ws A) p q lp lq (eqb-true (from ts p) v e ∙ sym (eqb-true (from ts q) v f)) z)

  pub record TargetFound (j : ℕ) : Type 0 where
    pub reads : ℕ
    pub few : reads < neighbours n (third ts) (target ws j)
    pub answer : target_answer n (fronts_in (references_of n ts ws)) j ≡ 0 ∷ target ws j ∷ reads ∷ []

  pub target_found : (j : ℕ) → used j ≡ true → j < 3 * n → TargetFound j
  unfolding target_answer
  target_found j u l =
      let s = stands j u l in
      let p : ℕ = s.position in
      let c : ℕ = colour j in
      let R = surface n ts ws A in
      let M = marked n ts ws A in
      let refs : List ℕ = references_of n ts ws in
      let stop = stopping_side R n ws M p c s.within s.goes_out in
      let r : ℕ = steps R (colours n ts ws A) (fronts_in refs left) reads_left (degree R (from ts (next p))) c (3 * from ts p + c) in
      let w : Walked R (colours n ts ws A) (fronts_in refs left) reads_left p c r =
      walked R (colours n ts ws A) (fronts_in refs left) reads_left p c s.within s.goes_out stop.0 stop.1 stop.2 stop.3 in
      let d : degree R (from ts (next p)) < n = degree_less R n ws M (from ts (next p)) (M.corner (next p) (R.next_in p s.within)) in
      let b = w.short in
      let k = sides_neighbours (from ts (next p)) in
      let v : neighbours n (third ts) (from ts (next p)) ≡ neighbours n (third ts) (target ws j) = ap (neighbours n (third ts)) s.ends in
      record {
        reads = r;
        few = omega arith;
        answer =
            ap (λ x. walk n (fronts_in refs) c (n - 2) x 0) (sym s.named) ∙
            (walk_stops n (fronts_in refs) c (n - 2) (3 * from ts p + c) (from ts (next p)) r (omega arith) w.on
            (λ i g. ap (is_edge n) (w.stands (suc i) (omega arith)) ∙ edge_is_edge n ts ws A (iterate (turn_back R) (suc i) (twin ts p)) (turns_back_in R (suc i) (twin ts p) ((pairs n ts ws A).twin_in p s.within)))
            w.stops ∙ ap (λ x. 0 ∷ x ∷ r ∷ []) s.ends);
      }
