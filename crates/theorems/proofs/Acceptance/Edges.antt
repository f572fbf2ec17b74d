-- Numbers 9, 10 and 11, each with the sentences that it is met for want of: the fault is absent exactly when they hold. 10 needs that
-- sides come in pairs, so that neighbours by the test are neighbours by the triangles.
use Prim.Native.Nat.{ℕ, ◌*◌, ◌≤◌, ◌<◌}
use mathlib.Core.Path.{◌≡◌, refl, sym, ◌∙◌}
use mathlib.Core.List.{List}
use mathlib.Core.Bool.{true, false, not, ◌&&◌, ◌||◌}
use mathlib.Core.Logic.{◌↔◌, inl, inr}
use native.Mathlib.Omega.{arith}
use lib.ListN.{length}
use lib.Dec.{leb, ltb, eqb}
use borrow.Author.Tests.{ltb-true, ltb-false, le-leb, lt-leb, leb-true, leb-false, eqb-true, eq-eqb, not-false}
use Rattle.mesh.specs.Search.{some}
use Rattle.mesh.specs.Limits.{at, unused_mark}
use Rattle.mesh.specs.Sides.{side_at, third, is_neighbour}
use Rattle.mesh.specs.Paired.{Paired}
use Rattle.mesh.specs.Wood.{source, colour, target, anchor_targets, used, same_pair}
use Rattle.mesh.specs.Verdict.{anchor_edge_fault, target_fault, wood_fault, join_fault, pair_fault, edge_fault, anchor_fault}
use Rattle.mesh.specs.Mesh.{Edge, Joins, AnchorEdges, TargetsBelow, EdgesJoin, PairsOnce, AnchorRule}
use Rattle.mesh.proofs.Tests.{by_bool, clash, and_true, and_fails, and_false_left, and_false_right, or_true, or_left, or_right, or_false, or_none, by_order}
use Rattle.mesh.proofs.Search.{some_none, none_some}
use Rattle.mesh.proofs.Paired.{neighbour_side}
use Rattle.theorems.proofs.Acceptance.Corners.{found_side}
use Rattle.theorems.proofs.Acceptance.Table.{of_neighbour}

-- an edge, by the test and by the sentence
pub edge_used : (n e : ℕ) → Edge n e → used e ≡ true
unfolding used
edge_used n e (l, inl h) = rw h
edge_used n e (l, inr (inl h)) = rw h
edge_used n e (l, inr (inr (inl h))) = rw h
edge_used n e (l, inr (inr (inr h))) = or_left (leb 9 e) (eqb e 3 || (eqb e 6 || eqb e 7)) (le-leb 9 e h)

pub used_edge : (n e : ℕ) → used e ≡ true → e < 3 * n → Edge n e
unfolding used
used_edge n e u l =
    or_true (leb 9 e) (eqb e 3 || (eqb e 6 || eqb e 7)) u (λ t. (l, inr (inr (inr (leb-true 9 e t)))))
    (λ t. or_true (eqb e 3) (eqb e 6 || eqb e 7) t (λ a. (l, inl (eqb-true e 3 a)))
    (λ a. or_true (eqb e 6) (eqb e 7) a (λ b. (l, inr (inl (eqb-true e 6 b)))) (λ b. (l, inr (inr (inl (eqb-true e 7 b)))))))

-- 9: the wood's first nine indices, and the other targets
module _ (n : ℕ) (ws : List ℕ) where
  anchors_held : wood_fault n ws ≡ false → AnchorEdges ws
  unfolding wood_fault
  anchors_held no9 i l =
      eqb-true (target ws i) (at anchor_targets i)
      (not-false (eqb (target ws i) (at anchor_targets i))
      (some_none (anchor_edge_fault ws) 9 (or_false (some (anchor_edge_fault ws) 9) (some (target_fault n ws) (3 * n)) no9).0 i l))

  targets_held : wood_fault n ws ≡ false → TargetsBelow n ws
  unfolding wood_fault
  targets_held no9 e h l =
      and_fails (leb 9 e) (leb n (target ws e))
      (some_none (target_fault n ws) (3 * n) (or_false (some (anchor_edge_fault ws) 9) (some (target_fault n ws) (3 * n)) no9).1 e l)
      (λ t. absurd (omega (arith, leb-false 9 e t))) (λ t. leb-false n (target ws e) t)

  wood_right : AnchorEdges ws → TargetsBelow n ws → wood_fault n ws ≡ false
  unfolding wood_fault
  wood_right a b =
      or_none (some (anchor_edge_fault ws) 9) (some (target_fault n ws) (3 * n))
      (none_some (anchor_edge_fault ws) 9 (λ i l. rw (eq-eqb (target ws i) (at anchor_targets i) (a i l))))
      (none_some (target_fault n ws) (3 * n)
      (λ e l. by_bool (leb 9 e)
      (λ t. and_false_right (leb 9 e) (leb n (target ws e)) (lt-leb n (target ws e) (b e (leb-true 9 e t) l)))
      (λ t. and_false_left (leb 9 e) (leb n (target ws e)) t)))

  pub tied_9 : (wood_fault n ws ≡ false) ↔ (AnchorEdges ws × TargetsBelow n ws)
  tied_9 = (λ e. (anchors_held e, targets_held e), λ h. wood_right h.0 h.1)

-- 10: two edges join the same pair, by the test and by the sentence
pair_joins : (ws : List ℕ) (d e : ℕ) → same_pair ws d e ≡ true → Joins ws d (source e) (target ws e)
unfolding same_pair
pair_joins ws d e t =
    or_true (eqb (source d) (source e) && eqb (target ws d) (target ws e)) (eqb (source d) (target ws e) && eqb (target ws d) (source e)) t
    (λ u.
    let p = and_true (eqb (source d) (source e)) (eqb (target ws d) (target ws e)) u in
    inl (eqb-true (source d) (source e) p.0, eqb-true (target ws d) (target ws e) p.1))
    (λ u.
    let p = and_true (eqb (source d) (target ws e)) (eqb (target ws d) (source e)) u in
    inr (eqb-true (source d) (target ws e) p.0, eqb-true (target ws d) (source e) p.1))

module _ (ws : List ℕ) (d e : ℕ) where
  pub pair_same : source d ≡ source e → target ws d ≡ target ws e → same_pair ws d e ≡ true
  unfolding same_pair
  pair_same p q = rw (eq-eqb (source d) (source e) p, eq-eqb (target ws d) (target ws e) q)

  pub pair_back : source d ≡ target ws e → target ws d ≡ source e → same_pair ws d e ≡ true
  unfolding same_pair
  pair_back p q =
      or_right (eqb (source d) (source e) && eqb (target ws d) (target ws e)) (eqb (source d) (target ws e) && eqb (target ws d) (source e))
      (rw (eq-eqb (source d) (target ws e) p, eq-eqb (target ws d) (source e) q))

  joins_pair : (a b : ℕ) → Joins ws d a b → Joins ws e a b → same_pair ws d e ≡ true
  joins_pair a b (inl p) (inl q) = pair_same (p.0 ∙ sym q.0) (p.1 ∙ sym q.1)
  joins_pair a b (inl p) (inr q) = pair_back (p.0 ∙ sym q.1) (p.1 ∙ sym q.0)
  joins_pair a b (inr p) (inl q) = pair_back (p.0 ∙ sym q.1) (p.1 ∙ sym q.0)
  joins_pair a b (inr p) (inr q) = pair_same (p.0 ∙ sym q.0) (p.1 ∙ sym q.1)

module _ (n : ℕ) (ts ws : List ℕ) (P : Paired n ts) (few : n ≤ unused_mark) where
  edges_right : EdgesJoin n ts ws → PairsOnce n ws → edge_fault n (third ts) ws ≡ false
  unfolding edge_fault
  edges_right joins once =
      or_none (some (join_fault n (third ts) ws) (3 * n)) (some (pair_fault ws) (3 * n))
      (none_some (join_fault n (third ts) ws) (3 * n)
      (λ e l. by_bool (used e)
      (λ u. and_false_right (used e) (not (is_neighbour n (third ts) (source e) (target ws e)))
      (rw (of_neighbour n ts P few (source e) (target ws e) (joins e (used_edge n e u l)))))
      (λ u. and_false_left (used e) (not (is_neighbour n (third ts) (source e) (target ws e))) u)))
      (none_some (pair_fault ws) (3 * n)
      (λ e l. by_bool (used e)
      (λ u. and_false_right (used e) (some (λ d. used d && same_pair ws d e) e)
      (none_some (λ d. used d && same_pair ws d e) e
      (λ d g. by_bool (used d && same_pair ws d e)
      (λ t.
      let s = and_true (used d) (same_pair ws d e) t in
      let z : d ≡ e =
      once d e (source e) (target ws e) (used_edge n d s.0 (omega arith)) (used_edge n e u l) (pair_joins ws d e s.1) (inl (refl, refl)) in
      absurd (omega arith))
      (λ t. t))))
      (λ u. and_false_left (used e) (some (λ d. used d && same_pair ws d e) e) u)))

  -- an edge runs along a side, and two of them do not join the same pair
  module _ (no10 : edge_fault n (third ts) ws ≡ false) where
    pub edge_in : (e : ℕ) → used e ≡ true → e < 3 * n → side_at ts (source e) (target ws e) < length ts
    unfolding edge_fault
    edge_in e u l =
        let t = some_none (join_fault n (third ts) ws) (3 * n) (or_false (some (join_fault n (third ts) ws) (3 * n)) (some (pair_fault ws) (3 * n)) no10).0 e l in
        neighbour_side n ts P few (source e) (target ws e)
        (and_fails (used e) (not (is_neighbour n (third ts) (source e) (target ws e))) t (λ q. clash (used e) u q)
        (λ q. not-false (is_neighbour n (third ts) (source e) (target ws e)) q))

    pub pairs_apart : (d e : ℕ) → used d ≡ true → used e ≡ true → d < e → e < 3 * n → same_pair ws d e ≡ false
    unfolding edge_fault
    pairs_apart d e u v l h =
        let t = some_none (pair_fault ws) (3 * n) (or_false (some (join_fault n (third ts) ws) (3 * n)) (some (pair_fault ws) (3 * n)) no10).1 e h in
        and_fails (used e) (some (λ d. used d && same_pair ws d e) e) t (λ q. clash (used e) v q)
        (λ q. and_fails (used d) (same_pair ws d e) (some_none (λ d. used d && same_pair ws d e) e q d l) (λ r. clash (used d) u r) (λ r. r))

    -- of two edges that join a pair neither is lower
    not_lower : (d e a b : ℕ) → Edge n d → Edge n e → Joins ws d a b → Joins ws e a b → d < e → ⊥
    not_lower d e a b hd he p q l =
        clash (same_pair ws d e) (joins_pair ws d e a b p q) (pairs_apart d e (edge_used n d hd) (edge_used n e he) l he.0)

    pairs_once : PairsOnce n ws
    pairs_once d e a b hd he p q =
        by_order d e (λ l. absurd (not_lower d e a b hd he p q l)) (λ z. z) (λ l. absurd (not_lower e d a b he hd q p l))

    edges_join : EdgesJoin n ts ws
    edges_join e h = found_side ts (source e) (target ws e) (edge_in e (edge_used n e h) h.0)

  pub tied_10 : (edge_fault n (third ts) ws ≡ false) ↔ (EdgesJoin n ts ws × PairsOnce n ws)
  tied_10 = (λ e. (edges_join e, pairs_once e), λ h. edges_right h.0 h.1)

-- 11: the anchor rule
module _ (n : ℕ) (ws : List ℕ) where
  rule_held : some (anchor_fault ws) (3 * n) ≡ false → AnchorRule n ws
  rule_held no11 e h l k =
      and_fails (leb 9 e) (ltb (target ws e) 3 && not (eqb (colour e) (target ws e))) (some_none (anchor_fault ws) (3 * n) no11 e l)
      (λ t. absurd (omega (arith, leb-false 9 e t)))
      (λ t. and_fails (ltb (target ws e) 3) (not (eqb (colour e) (target ws e))) t
      (λ u. absurd (omega (arith, ltb-false (target ws e) 3 u)))
      (λ u. eqb-true (colour e) (target ws e) (not-false (eqb (colour e) (target ws e)) u)))

  anchors_right : AnchorRule n ws → some (anchor_fault ws) (3 * n) ≡ false
  anchors_right rule =
      none_some (anchor_fault ws) (3 * n)
      (λ e l. by_bool (leb 9 e)
      (λ t. and_false_right (leb 9 e) (ltb (target ws e) 3 && not (eqb (colour e) (target ws e)))
      (by_bool (ltb (target ws e) 3)
      (λ u. and_false_right (ltb (target ws e) 3) (not (eqb (colour e) (target ws e)))
      (rw (eq-eqb (colour e) (target ws e) (rule e (leb-true 9 e t) l (ltb-true (target ws e) 3 u)))))
      (λ u. and_false_left (ltb (target ws e) 3) (not (eqb (colour e) (target ws e))) u)))
      (λ t. and_false_left (leb 9 e) (ltb (target ws e) 3 && not (eqb (colour e) (target ws e))) t))

  pub tied_11 : (some (anchor_fault ws) (3 * n) ≡ false) ↔ AnchorRule n ws
  tied_11 = (rule_held, anchors_right)
