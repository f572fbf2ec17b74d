-- What an accepted mesh writes at each place of its references. The place of position p (left or right of its edge) reads the two
-- other edges of p's triangle, so its edge is the lowest of the three there exactly when p is the lowest position
-- of its triangle, and what is then written are the three corners from p on. Every place of an edge is the place of a position.
use Prim.Native.Nat.{ℕ, ◌+◌, ◌*◌, ◌/◌, ◌%◌, ◌<◌}
use mathlib.Core.Path.{◌≡◌, refl, sym, ap, ◌∙◌}
use mathlib.Core.List.{List, [], ◌∷◌}
use mathlib.Core.Bool.{Bool, true, false, ◌&&◌}
use mathlib.Core.Logic.{◌≢◌}
use native.Mathlib.Omega.{arith}
use lib.ListN.{length}
use lib.Dec.{ltb}
use borrow.Author.Tests.{ltb-true, eq-eqb, ne_eqb}
use Rattle.mesh.specs.Limits.{at}
use Rattle.mesh.specs.Sides.{next, from, to, side_at, third}
use Rattle.mesh.specs.Wood.{out, into, bare, source, target, used, is_edge, label_of, edge_at}
use Rattle.mesh.specs.Array.{Hand, left, right, front_place, hand_at, corner_on, front, references_of}
use Rattle.mesh.specs.Rebuild.{other_end, corner_beside, is_lowest, triangle_beside, written_at}
use Rattle.mesh.proofs.Tests.{and_true}
use Rattle.mesh.proofs.Positions.{next_3, side_at_law}
use Rattle.mesh.specs.Paired.{twin, turn}
use Rattle.mesh.proofs.Paired.{turn_in, turn_from, turn_to, next_within, to_in, third_is}
use Rattle.mesh.specs.Verdict.{Clear}
use Rattle.mesh.proofs.TurnRule.{by_label}
use Rattle.mesh.proofs.Written.{place_of_holds, writes, written_here}
use Rattle.mesh.proofs.Labels.{label_is_out, label_is_into}
use Rattle.theorems.proofs.Marked.{label, all_labelled, is_out, is_into}
use Rattle.theorems.proofs.Accepted.{surface, pairs, marked, edge_in}
use Rattle.theorems.proofs.Fronts.{edge_here_holds, edge_is_edge, place_half, place_hand, reference_at_holds}
use Rattle.theorems.proofs.Rebuilding.Lowest.{edge, hand, place, edge_back, by_hand, lowest}

and_swap : (a b : Bool) → (a && b) ≡ (b && a)
and_swap true true = refl
and_swap true false = refl
and_swap false true = refl
and_swap false false = refl

-- the end of an edge that is not v
other_end_holds : (ws : List ℕ) (v w : ℕ) → v ≢ w → label_of ws v w ≢ bare → other_end ws (edge_at ws v w) v ≡ w
unfolding other_end edge_at
other_end_holds ws v w n h =
    by_label (label_of ws v w)
    (λ c e. let t = label_is_out ws v w c e in let k = t.0 in rw (e, eq-eqb ((3 * v + c) / 3) v (omega arith)) t.1)
    (λ c e. let t = label_is_into ws v w c e in let k = t.0 in rw (e, ne_eqb ((3 * w + c) / 3) v (λ q. n (omega arith))) (omega arith))
    (λ e. absurd (h e))

module _ (n : ℕ) (ts ws : List ℕ) (A : Clear n ts ws) where
  -- the references of the mesh
  abbrev pub refs : List ℕ
  refs = references_of n ts ws

  -- what Lowest says of a rotation system, here of the table
  abbrev pub edge_along : ℕ → ℕ
  edge_along p = edge (surface n ts ws A) n ws (marked n ts ws A) p

  abbrev pub hand_of : ℕ → Hand
  hand_of p = hand (surface n ts ws A) n ws (marked n ts ws A) p

  abbrev pub place_of : ℕ → ℕ
  place_of p = place (surface n ts ws A) n ws (marked n ts ws A) p

  abbrev pub is_low : ℕ → Bool
  is_low p = lowest (surface n ts ws A) n ws (marked n ts ws A) p

  corner_in : (p : ℕ) → p < length ts → from ts p < n
  corner_in p l = (pairs n ts ws A).corner p l

  last_in : (p : ℕ) → p < length ts → next (next p) < length ts
  last_in p l = next_within n ts (pairs n ts ws A) (next p) (next_within n ts (pairs n ts ws A) p l)

  -- left of its edge a position runs with it, right of it against it
  by_side {ℓ} : {A : Type ℓ} (p : ℕ) → p < length ts
      → (hand_of p ≡ left → source (edge_along p) ≡ from ts p → target ws (edge_along p) ≡ to ts p → A)
      → (hand_of p ≡ right → source (edge_along p) ≡ to ts p → target ws (edge_along p) ≡ from ts p → A) → A
  by_side p l f g =
      by_hand (surface n ts ws A) n ws (marked n ts ws A) p l
      (λ c k h e t. f h (omega arith) (ap (target ws) e ∙ t)) (λ c k h e t. g h (omega arith) (ap (target ws) e ∙ t))

  is_edge_holds : (p : ℕ) → p < length ts → (used (edge_along p) ≡ true) × (ltb (edge_along p) (3 * n) ≡ true)
  is_edge_holds p l = and_true (used (edge_along p)) (ltb (edge_along p) (3 * n)) (ap (is_edge n) (edge_here_holds n ts ws A p) ∙ edge_is_edge n ts ws A p l)

  -- the corner beside the edge is that of p's triangle
  corner_beside_holds : (p : ℕ) → p < length ts → corner_on (hand_of p) (third ts) (source (edge_along p)) (target ws (edge_along p)) ≡ from ts (next (next p))
  corner_beside_holds p l =
      by_side p l (λ h s t. rw (h, s, t) (third_is n ts (pairs n ts ws A) (from ts p) (to ts p) p l refl refl))
      (λ h s t. rw (h, s, t) (third_is n ts (pairs n ts ws A) (from ts p) (to ts p) p l refl refl))

  -- so the reference at p's place is the edge from the target to that corner
  reference_is : (p : ℕ) → p < length ts → at refs (place_of p) ≡ edge_at ws (target ws (edge_along p)) (from ts (next (next p)))
  unfolding front
  reference_is p l =
      reference_at_holds n ts ws (hand_of p) (edge_along p) (is_edge_holds p l).0 (ltb-true (edge_along p) (3 * n) (is_edge_holds p l).1) ∙
      ap (edge_at ws (target ws (edge_along p))) (corner_beside_holds p l)

  -- and the corner is read off it
  target_differs : (p : ℕ) → p < length ts → target ws (edge_along p) ≢ from ts (next (next p))
  target_differs p l e =
      by_side p l
      (λ h s t. (pairs n ts ws A).differ (next p) (next_within n ts (pairs n ts ws A) p l) (sym t ∙ e))
      (λ h s t. (pairs n ts ws A).differ (next (next p)) (last_in p l) (sym e ∙ t ∙ ap (from ts) (sym (next_3 p))))

  target_labelled : (p : ℕ) → p < length ts → label_of ws (target ws (edge_along p)) (from ts (next (next p))) ≢ bare
  unfolding label
  target_labelled p l e =
      by_side p l
      (λ h s t. all_labelled (surface n ts ws A) n ws (marked n ts ws A) (next p) (next_within n ts (pairs n ts ws A) p l) (rw t at e))
      (λ h s t.
      all_labelled (surface n ts ws A) n ws (marked n ts ws A) (turn ts p) (turn_in n ts (pairs n ts ws A) p l)
      (rw (turn_from n ts (pairs n ts ws A) p l, turn_to n ts (pairs n ts ws A) p l) (rw t at e)))

  pub corner_is : (p : ℕ) → p < length ts → corner_beside (hand_of p) refs ws (edge_along p) ≡ from ts (next (next p))
  unfolding corner_beside
  corner_is p l =
      ap (λ f. other_end ws f (target ws (edge_along p))) (reference_is p l) ∙
      other_end_holds ws (target ws (edge_along p)) (from ts (next (next p))) (target_differs p l) (target_labelled p l)

  -- the edge that closes the triangle
  closing : (p : ℕ) → p < length ts → edge_at ws (from ts p) (from ts (next (next p))) ≡ edge_along (next (next p))
  closing p l =
      edge_back (surface n ts ws A) n ws (marked n ts ws A) (from ts p) (from ts (next (next p))) (corner_in p l) (corner_in (next (next p)) (last_in p l)) ∙
      ap (λ q. edge_at ws (from ts (next (next p))) (from ts q)) (sym (next_3 p))

  -- the smallest among the three edges
  pub low_is : (p : ℕ) → p < length ts → is_lowest (hand_of p) refs ws (edge_along p) ≡ is_low p
  unfolding is_lowest
  low_is p l =
      rw (reference_is p l, corner_is p l)
      (by_side p l (λ h s t. rw (s, t, closing p l))
      (λ h s t. rw (s, t, closing p l) (and_swap (ltb (edge_along p) (edge_along (next (next p)))) (ltb (edge_along p) (edge_along (next p))))))

  triangle_is : (p : ℕ) → p < length ts
      → triangle_beside (hand_of p) refs ws (edge_along p) ≡ from ts p ∷ to ts p ∷ from ts (next (next p)) ∷ []
  triangle_is p l =
      let c = corner_is p l in
      by_side p l (λ h s t. by_left h s t (rw h at c)) (λ h s t. by_right h s t (rw h at c))
    where
      by_left : hand_of p ≡ left → source (edge_along p) ≡ from ts p → target ws (edge_along p) ≡ to ts p
          → corner_beside left refs ws (edge_along p) ≡ from ts (next (next p))
          → triangle_beside (hand_of p) refs ws (edge_along p) ≡ from ts p ∷ to ts p ∷ from ts (next (next p)) ∷ []
      by_left h s t c = rw (h, s, t, c)

      by_right : hand_of p ≡ right → source (edge_along p) ≡ to ts p → target ws (edge_along p) ≡ from ts p
          → corner_beside right refs ws (edge_along p) ≡ from ts (next (next p))
          → triangle_beside (hand_of p) refs ws (edge_along p) ≡ from ts p ∷ to ts p ∷ from ts (next (next p)) ∷ []
      by_right h s t c = rw (h, s, t, c)

  -- the place of p writes exactly where p is the lowest position of its triangle
  pub writes_low : (p : ℕ) → p < length ts → writes refs ws (place_of p) ≡ is_low p
  writes_low p l = rw (place_half (hand_of p) (edge_along p), place_hand (hand_of p) (edge_along p), (is_edge_holds p l).0) (low_is p l)

  -- and what it writes are the corners from p on
  pub written_is : (p : ℕ) → p < length ts → is_low p ≡ true
      → written_at refs ws (place_of p) ≡ from ts p ∷ to ts p ∷ from ts (next (next p)) ∷ []
  written_is p l e =
      written_here refs ws (place_of p) (writes_low p l ∙ e) ∙
      rw (place_half (hand_of p) (edge_along p), place_hand (hand_of p) (edge_along p)) (triangle_is p l)

  -- the position of a place
  unfoldable pub position : ℕ → ℕ
  position i = corner_on (hand_at i) (side_at ts) (source (i / 2)) (target ws (i / 2))

  along_left : (p j : ℕ) → p < length ts → from ts p ≡ source j → to ts p ≡ target ws j → place_of p ≡ front_place left j
  unfolding edge_at
  along_left p j l s t =
      let w : 3 * from ts p + j % 3 ≡ j = omega arith in
      let e : label_of ws (from ts p) (to ts p) ≡ out (j % 3) =
      is_out (surface n ts ws A) n ws (marked n ts ws A) (from ts p) (to ts p) (j % 3) (corner_in p l)
      (to_in n ts (pairs n ts ws A) p l) (omega arith) (ap (target ws) w ∙ sym t) in
      rw e (omega arith)

  along_right : (p j : ℕ) → p < length ts → from ts p ≡ target ws j → to ts p ≡ source j → place_of p ≡ front_place right j
  unfolding edge_at
  along_right p j l t s =
      let w : 3 * to ts p + j % 3 ≡ j = omega arith in
      let e : label_of ws (from ts p) (to ts p) ≡ into (j % 3) =
      is_into (surface n ts ws A) n ws (marked n ts ws A) (to ts p) (from ts p) (j % 3)
      (to_in n ts (pairs n ts ws A) p l) (corner_in p l) (omega arith) (ap (target ws) w ∙ sym t) in
      rw e (omega arith)

  reverse_in : (a b p : ℕ) → p < length ts → from ts p ≡ a → to ts p ≡ b → side_at ts b a < length ts
  unfolding twin
  reverse_in a b p l e f = rw (e, f) at ((pairs n ts ws A).twin_in p l)

  on_hand : (h : Hand) (j : ℕ) → used j ≡ true → j < 3 * n
      → (corner_on h (side_at ts) (source j) (target ws j) < length ts) × (place_of (corner_on h (side_at ts) (source j) (target ws j)) ≡ front_place h j)
  on_hand left j u l =
      let i = edge_in n ts ws A j u l in
      let s = side_at_law ts (source j) (target ws j) i in
      (i, along_left (side_at ts (source j) (target ws j)) j i s.0 s.1)
  on_hand right j u l =
      let i = edge_in n ts ws A j u l in
      let s = side_at_law ts (source j) (target ws j) i in
      let k : side_at ts (target ws j) (source j) < length ts = reverse_in (source j) (target ws j) (side_at ts (source j) (target ws j)) i s.0 s.1 in
      let t = side_at_law ts (target ws j) (source j) k in
      (k, along_right (side_at ts (target ws j) (source j)) j k t.0 t.1)

  pub position_is : (i : ℕ) → used (i / 2) ≡ true → i < 6 * n → (position i < length ts) × (place_of (position i) ≡ i)
  unfolding position
  position_is i u l =
      let r = on_hand (hand_at i) (i / 2) u (omega arith) in
      (r.0, r.1 ∙ place_of_holds i)
