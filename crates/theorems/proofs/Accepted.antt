-- From the verdict to the geometry: an accepted mesh is a rotation system (`surface`) whose wood is Marked (`marked`). Each fact
-- is one fault that does not apply, read as a sentence; the law at inner vertices is the turn rule carried from the labels that
-- one turn meets to the positions of the table.
use Prim.Native.Nat.{ℕ, suc, ◌+◌, ◌-◌, ◌*◌, ◌/◌, ◌≤◌, ◌<◌}
use mathlib.Core.Path.{◌≡◌, refl, sym, ap, ◌∙◌, subst}
use mathlib.Core.List.{List}
use mathlib.Core.Bool.{true, false, ◌||◌}
use native.Mathlib.Omega.{arith}
use lib.ListN.{length}
use lib.Dec.{leb, eqb}
use borrow.Author.Tests.{leb-false, le-leb, eqb-true, lt-ltb, not-false}
use Rattle.mesh.specs.Search.{first, first_from, every, iterate, tabulate}
use Rattle.mesh.specs.Limits.{at, unused_mark, fewest_vertices, most_vertices, triangles_length, wood_length}
use Rattle.mesh.specs.Sides.{next, from, to, side_at, third, turn_length}
use Rattle.mesh.specs.Wood.{Label, out, source, target, edge_of, anchor_targets, used, label_of, same_pair, turn_rule, labels_round}
use Rattle.mesh.specs.Verdict.{outer_fault, Clear}
use Rattle.mesh.specs.Mesh.{AnchorEdges, TargetsBelow, AnchorRule}
use Rattle.mesh.proofs.Limits.{in_range}
use Rattle.mesh.proofs.Ladder.{free}
use Rattle.mesh.proofs.Tests.{by_bool, clash, or_true, by_order}
use Rattle.mesh.proofs.Search.{every_at}
use Rattle.mesh.proofs.Iterate.{iterate_zero, iterate_step}
use Rattle.mesh.proofs.Positions.{next_div, next_3, same_triangle, side_at_law}
use Rattle.mesh.specs.Paired.{Paired, twin, turn}
use Rattle.mesh.proofs.Verdict.{table_part, table_paired}
use Rattle.mesh.proofs.Paired.{next_within, simple, third_is, twin_2, twin_from, turn_from, turns_to, neighbour_side}
use Rattle.mesh.proofs.Round.{turn_closes, turn_steps, turn_meets, turn_meets_once}
use Rattle.mesh.proofs.Labels.{sees_out}
use Rattle.mesh.proofs.TurnRule.{Step, rule_steps}
use Rattle.theorems.proofs.Acceptance.Table.{tied_2}
use Rattle.theorems.proofs.Acceptance.Edges.{tied_9, tied_11, pair_same, pair_back}
use Rattle.theorems.proofs.Acceptance.Edges as edges
use Rattle.theorems.proofs.Acceptance.Turns.{turn_kept}
use Rattle.theorems.proofs.Rotation.{Rotation}
use Rattle.theorems.proofs.Marked.{Marked}

module _ (n : ℕ) (ts ws : List ℕ) (A : Clear n ts ws) where
  pub enough : fewest_vertices ≤ n
  enough = (in_range n (free A 1)).enough

  pub not_too_many : n ≤ most_vertices
  not_too_many = (in_range n (free A 1)).not_too_many

  lengths : (length ts ≡ triangles_length n) × (length ws ≡ wood_length n)
  lengths = (tied_2 n ts ws).0 (free A 2)

  pub triangles_length_holds : length ts ≡ triangles_length n
  triangles_length_holds = lengths.0

  pub wood_length_holds : length ws ≡ wood_length n
  wood_length_holds = lengths.1

  pub few : n < unused_mark
  few = let a = not_too_many in omega arith

  pub whole : length ts ≡ 3 * (2 * n - 4)
  whole = let a = enough in let b = triangles_length_holds in omega arith

  pub pairs : Paired n ts
  pairs = table_paired n ts triangles_length_holds (table_part n ts ws A)

  pub meets_all : (p q : ℕ) → p < length ts → q < length ts → from ts p ≡ from ts q → (k : ℕ) × (iterate (λ x. twin ts (next (next x))) k p ≡ q)
  unfolding turn
  meets_all p q l g e = turn_meets n ts pairs (let a = few in omega arith) (free A 8) p q l g e

  -- the rotation system of the table
  abbrev pub surface : Rotation
  surface = record {
    size = length ts;
    next = next;
    twin = twin ts;
    from = from ts;
    face = λ p. p / 3;
    face_next = λ p l. next_div p;
    face_cases = λ p q l g e. same_triangle p q e;
    next_in = next_within n ts pairs;
    next_3 = λ p l. next_3 p;
    twin_in = pairs.twin_in;
    twin_2 = twin_2 n ts pairs;
    from_twin = twin_from n ts pairs;
    differ = pairs.differ;
    once = simple n ts pairs;
    meets_all = meets_all;
  }

  -- 9: the wood's first nine places, and the other targets
  pub anchor_edges : AnchorEdges ws
  anchor_edges = ((tied_9 n ws).0 (free A 9)).0

  pub targets : TargetsBelow n ws
  targets = ((tied_9 n ws).0 (free A 9)).1

  pub used_inner : (e : ℕ) → 9 ≤ e → used e ≡ true
  unfolding used
  used_inner e l = rw (le-leb 9 e l)

  -- an index with a target below n is used
  pub used_low : (e : ℕ) → target ws e < n → used e ≡ true
  unfolding used every first first_from
  used_low e h =
      by_bool (leb 9 e) (λ t. rw t)
      (λ t.
      let l : e < 9 = leb-false 9 e t in
      let b = anchor_edges e l in
      let f = few in
      or_true (eqb (at anchor_targets e) unused_mark) (used e)
      (every_at (λ e. eqb (at anchor_targets e) unused_mark || used e) 9 refl e l)
      (λ q. absurd (omega (arith, eqb-true (at anchor_targets e) unused_mark q))) (λ q. q))

  -- 10: an edge runs along a side, and no two join the same pair
  pub edge_in : (e : ℕ) → used e ≡ true → e < 3 * n → side_at ts (source e) (target ws e) < length ts
  edge_in = edges.edge_in n ts ws pairs (let a = few in omega arith) (free A 10)

  pairs_apart : (d e : ℕ) → used d ≡ true → used e ≡ true → d < e → e < 3 * n → same_pair ws d e ≡ false
  pairs_apart = edges.pairs_apart n ts ws pairs (let a = few in omega arith) (free A 10)

  -- two edges that join a pair are one
  one_pair : (d e : ℕ) → d < 3 * n → e < 3 * n → target ws d < n → target ws e < n → same_pair ws d e ≡ true → same_pair ws e d ≡ true → d ≡ e
  one_pair d e l h a b s t =
      by_order d e (λ o. clash (same_pair ws d e) s (pairs_apart d e (used_low d a) (used_low e b) o h)) (λ q. q)
      (λ o. clash (same_pair ws e d) t (pairs_apart e d (used_low e b) (used_low d a) o l))

  pub pair_once : (a b c d : ℕ) → a < n → b < n → c < 3 → d < 3 → target ws (3 * a + c) ≡ b → target ws (3 * a + d) ≡ b → c ≡ d
  pair_once a b c d la lb lc ld p q =
      let x : (3 * a + c) / 3 ≡ (3 * a + d) / 3 = omega arith in
      let z =
      one_pair (3 * a + c) (3 * a + d) (omega arith) (omega arith) (omega arith) (omega arith)
      (pair_same ws (3 * a + c) (3 * a + d) x (p ∙ sym q)) (pair_same ws (3 * a + d) (3 * a + c) (sym x) (q ∙ sym p)) in
      omega arith

  no_loop : (a c : ℕ) → a < n → c < 3 → target ws (3 * a + c) ≡ a → ⊥
  no_loop a c la lc e =
      let x : (3 * a + c) / 3 ≡ a = omega arith in
      let i = edge_in (3 * a + c) (used_low (3 * a + c) (omega arith)) (omega arith) in
      let s = side_at_law ts ((3 * a + c) / 3) (target ws (3 * a + c)) i in
      pairs.differ (side_at ts ((3 * a + c) / 3) (target ws (3 * a + c))) i (s.0 ∙ x ∙ sym e ∙ sym s.1)

  pub one_way : (a b c d : ℕ) → a < n → b < n → c < 3 → d < 3 → target ws (3 * a + c) ≡ b → target ws (3 * b + d) ≡ a → ⊥
  one_way a b c d la lb lc ld p q =
      let x : (3 * a + c) / 3 ≡ a = omega arith in
      let y : (3 * b + d) / 3 ≡ b = omega arith in
      let z =
      one_pair (3 * a + c) (3 * b + d) (omega arith) (omega arith) (omega arith) (omega arith)
      (pair_back ws (3 * a + c) (3 * b + d) (x ∙ sym q) (p ∙ sym y)) (pair_back ws (3 * b + d) (3 * a + c) (y ∙ sym p) (q ∙ sym x)) in
      let w : b ≡ a = omega arith in
      no_loop a c la lc (p ∙ w)

  -- 11
  pub anchor_rule : AnchorRule n ws
  anchor_rule = (tied_11 n ws).0 (free A 11)

  -- 12
  turn_rule_holds : (v : ℕ) → 3 ≤ v → v < n → turn_rule 0 (labels_round n (third ts) ws v) ≡ true
  turn_rule_holds = turn_kept n ts ws (free A 12)

  pub outer_side : (side_at ts 0 2 < length ts) × (third ts 0 2 ≡ 1)
  unfolding outer_fault
  outer_side =
      let e : third ts 0 2 ≡ 1 = eqb-true (third ts 0 2) 1 (not-false (eqb (third ts 0 2) 1) (free A 7)) in
      (neighbour_side n ts pairs (let a = few in omega arith) 0 2 (lt-ltb (third ts 0 2) n (let a = enough in omega arith)), e)

  -- the position of an inner vertex's edge of colour 0
  start : ℕ → ℕ
  start v = side_at ts v (target ws (edge_of v 0))

  start_is : (v : ℕ) → 3 ≤ v → v < n → (start v < length ts) × (from ts (start v) ≡ v) × (to ts (start v) ≡ target ws (edge_of v 0))
  unfolding start
  start_is v h l =
      let x : (3 * v + 0) / 3 ≡ v = omega arith in
      let i : side_at ts v (target ws (edge_of v 0)) < length ts =
      subst (λ z. side_at ts z (target ws (3 * v + 0)) < length ts) x (edge_in (3 * v + 0) (used_inner (3 * v + 0) (omega arith)) (omega arith)) in
      let s = side_at_law ts v (target ws (edge_of v 0)) i in
      (i, s.0, s.1)

  -- an edge out is the label that one sees of it
  pub out_label : (a b c : ℕ) → a < n → b < n → c < 3 → target ws (3 * a + c) ≡ b → label_of ws a b ≡ out c
  out_label a b c la lb lc e = sees_out ws a b c lc e (λ d ld f. pair_once a b d c la lb ld lc f e)

  -- the labels round an inner vertex, by positions, one after the other
  around : ℕ → ℕ → Label
  around v i = label_of ws v (iterate (third ts v) i (target ws (edge_of v 0)))

  -- the law of neighbouring labels along the turn from its edge of colour 0
  along_turn : (v : ℕ) → 3 ≤ v → v < n → (i : ℕ) → i < turn_length n (third ts) v (target ws (edge_of v 0)) → Step (around v i) (around v (suc i))
  unfolding labels_round around
  along_turn v h l i g =
      let a : ℕ = target ws (edge_of v 0) in
      let s = start_is v h l in
      let d : ℕ = turn_length n (third ts) v a in
      let e : turn_length n (third ts) (from ts (start v)) (to ts (start v)) ≡ d = rw (s.1, s.2) in
      let m : ℕ = d - 1 in
      let r : d ≡ suc m = (let w = turn_steps n ts pairs (start v) s.0 in omega arith) in
      let back : iterate (third ts v) d a ≡ a =
      rw (s.1, s.2) at
      (sym (turns_to n ts pairs (turn_length n (third ts) (from ts (start v)) (to ts (start v))) (start v) s.0) ∙ ap (to ts) (turn_closes n ts pairs (start v) s.0)) in
      let o : label_of ws v a ≡ out 0 = out_label v a 0 l (targets (3 * v + 0) (omega arith) (omega arith)) (omega arith) refl in
      rule_steps (around v) m (ap (label_of ws v) (iterate_zero (third ts v) a) ∙ o)
      (ap (λ x. label_of ws v (iterate (third ts v) x a)) (sym r) ∙ ap (label_of ws v) back ∙ o)
      (ap (λ x. turn_rule 0 (tabulate (around v) x)) (sym r) ∙ turn_rule_holds v h l) i (omega arith)

  -- and so at every side of the vertex
  inner : (p : ℕ) → p < length ts → 3 ≤ from ts p
      → Step (label_of ws (from ts p) (to ts p)) (label_of ws (from ts (turn ts p)) (to ts (turn ts p)))
  unfolding around
  inner p l h =
      let v : ℕ = from ts p in
      let lv : v < n = pairs.corner p l in
      let s = start_is v h lv in
      let m = turn_meets_once n ts pairs (let a = few in omega arith) (free A 8) (start v) p s.0 l s.1 in
      let k : ℕ = m.0 in
      let a : ℕ = target ws (edge_of v 0) in
      let at_k : (j : ℕ) → to ts (iterate (turn ts) j (start v)) ≡ iterate (third ts v) j a =
      (λ j. rw (s.1, s.2) at (turns_to n ts pairs j (start v) s.0)) in
      let g : k < turn_length n (third ts) v a = rw (s.1, s.2) at m.1 in
      let x : to ts p ≡ iterate (third ts v) k a = ap (to ts) (sym m.2) ∙ at_k k in
      let y : to ts (turn ts p) ≡ iterate (third ts v) (suc k) a =
      ap (λ z. to ts (turn ts z)) (sym m.2) ∙ ap (to ts) (sym (iterate_step (turn ts) k (start v))) ∙ at_k (suc k) in
      rw (turn_from n ts pairs p l, x, y) (along_turn v h lv k g)

  edge_side : (e : ℕ) → 9 ≤ e → e < 3 * n → (p : ℕ) × (p < length ts) × (from ts p ≡ e / 3) × (to ts p ≡ target ws e)
  edge_side e h l =
      let i = edge_in e (used_inner e h) l in
      let s = side_at_law ts (source e) (target ws e) i in
      (side_at ts (source e) (target ws e), i, s.0, s.1)

  pub marked : Marked surface n ws
  unfolding turn
  marked =
      let o = outer_side in
      let s = side_at_law ts 0 2 o.0 in
      record {
        few = few;
        corner = pairs.corner;
        anchor_edges = anchor_edges;
        edge_side = edge_side;
        pair_once = pair_once;
        one_way = one_way;
        anchor_rule = anchor_rule;
        inner = inner;
        outer_at = side_at ts 0 2;
        outer_in = o.0;
        outer_0 = s.0;
        outer_2 = s.1;
        outer_1 = sym (third_is n ts pairs 0 2 (side_at ts 0 2) o.0 s.0 s.1) ∙ o.1;
      }
