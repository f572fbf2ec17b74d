-- The four neighbours of an edge, as the triangles give them, seen from the position p of its side: LeftFront is the edge at the
-- next side of the triangle, RightFront the edge at the side that follows the reverse side round the target; LeftBack and RightBack
-- are the edges at the sides after and before p round the source. And the array holds just these.
use Prim.Native.Nat.{ℕ, ◌+◌, ◌*◌, ◌/◌, ◌%◌, ◌<◌}
use mathlib.Core.Path.{◌≡◌, refl, sym, ap₂, ◌∙◌, subst}
use mathlib.Core.List.{List}
use mathlib.Core.Bool.{true}
use native.Mathlib.Omega.{arith}
use lib.ListN.{length}
use lib.Dec.{ltb}
use borrow.Author.Tests.{lt-ltb, eq-eqb, ne_eqb}
use Rattle.mesh.specs.Limits.{at, unused_mark}
use Rattle.mesh.specs.Sides.{next, from, to, third}
use Rattle.mesh.specs.Wood.{Label, out, source, target, used, is_edge, label_of, edge_at}
use Rattle.mesh.specs.Array.{Hand, left, right, front_place, hand_at, front, back, reference_at, same_source, service_at, references_by, references_of, service_of}
use Rattle.mesh.proofs.Tests.{and_of}
use Rattle.mesh.proofs.Lists.{get_d_tabulate, length_tabulate}
use Rattle.mesh.specs.Paired.{twin}
use Rattle.mesh.proofs.Paired.{third_is, twin_from, twin_to}
use Rattle.mesh.proofs.TurnRule.{by_label}
use Rattle.mesh.specs.Verdict.{Clear}
use Rattle.theorems.proofs.Rotation.{turn, turn_back, turn_from, turn_back_from, to_twin}
use Rattle.theorems.proofs.Coloured.{Coloured, edge}
use Rattle.mesh.proofs.Labels.{label_is_out, label_is_into}
use Rattle.theorems.proofs.Marked.{label, wood, out_is, all_labelled}
use Rattle.theorems.proofs.Accepted.{pairs, surface, marked, used_low}

module _ (n : ℕ) (ts ws : List ℕ) (A : Clear n ts ws) where
  -- the wood on the surface
  abbrev pub colours : Coloured (surface n ts ws A)
  colours = wood (surface n ts ws A) n ws (marked n ts ws A)

  -- the label and the edge at a position
  abbrev pub label_here : ℕ → Label
  label_here p = label (surface n ts ws A) n ws (marked n ts ws A) p

  abbrev pub edge_here : ℕ → ℕ
  edge_here p = edge (surface n ts ws A) colours p

  abbrev turned : ℕ → ℕ
  turned p = turn (surface n ts ws A) p

  abbrev turned_back : ℕ → ℕ
  turned_back p = turn_back (surface n ts ws A) p

  -- the edge that joins the two ends of a side
  pub edge_here_holds : (p : ℕ) → edge_at ws (from ts p) (to ts p) ≡ edge_here p
  unfolding edge_at label
  edge_here_holds p = refl

  -- each side's edge is an edge of the mesh
  pub edge_is_edge : (p : ℕ) → p < length ts → is_edge n (edge_here p) ≡ true
  unfolding label
  edge_is_edge p l =
      let P = pairs n ts ws A in
      let a = P.corner p l in
      let b = (marked n ts ws A).corner (next p) ((surface n ts ws A).next_in p l) in
      by_label (label_of ws (from ts p) (to ts p))
      (λ c e.
      let t = label_is_out ws (from ts p) (to ts p) c e in
      let k = t.0 in
      rw e (and_of (used (3 * from ts p + c)) (ltb (3 * from ts p + c) (3 * n)) (used_low n ts ws A (3 * from ts p + c) (subst (λ x. x < n) (sym t.1) b)) (lt-ltb (3 * from ts p + c) (3 * n) (omega arith))))
      (λ c e.
      let t = label_is_into ws (from ts p) (to ts p) c e in
      let k = t.0 in
      rw e (and_of (used (3 * to ts p + c)) (ltb (3 * to ts p + c) (3 * n)) (used_low n ts ws A (3 * to ts p + c) (subst (λ x. x < n) (sym t.1) a)) (lt-ltb (3 * to ts p + c) (3 * n) (omega arith))))
      (λ e. absurd (all_labelled (surface n ts ws A) n ws (marked n ts ws A) p l e))

  -- the ends of the edge at a side by which an edge of colour c goes out
  pub out_ends : (p c : ℕ) → label_here p ≡ out c → (c < 3) × (source (3 * from ts p + c) ≡ from ts p) × (target ws (3 * from ts p + c) ≡ to ts p)
  out_ends p c e = let t = out_is (surface n ts ws A) n ws (marked n ts ws A) p c e in let k = t.0 in (k, omega arith, t.1)

  module _ (p c : ℕ) (l : p < length ts) (e : label_here p ≡ out c) where
    left_corner : third ts (from ts p) (to ts p) ≡ from ts (next (next p))
    left_corner = third_is n ts (pairs n ts ws A) (from ts p) (to ts p) p l refl refl

    right_corner : third ts (to ts p) (from ts p) ≡ from ts (next (next (twin ts p)))
    right_corner =
        third_is n ts (pairs n ts ws A) (to ts p) (from ts p) (twin ts p) ((pairs n ts ws A).twin_in p l)
        (twin_from n ts (pairs n ts ws A) p l) (twin_to n ts (pairs n ts ws A) p l)

    pub front_left : front left (third ts) ws (3 * from ts p + c) ≡ edge_here (next p)
    unfolding front
    front_left =
        let t = out_ends p c e in
        rw (t.1, t.2, left_corner) (edge_here_holds (next p))

    pub front_right : front right (third ts) ws (3 * from ts p + c) ≡ edge_here (turned (twin ts p))
    unfolding front
    front_right =
        let t = out_ends p c e in
        let q : ℕ = twin ts p in
        let lq : q < length ts = (pairs n ts ws A).twin_in p l in
        let l2 = (surface n ts ws A).next_in (next q) ((surface n ts ws A).next_in q lq) in
        rw (t.1, t.2, right_corner)
        (ap₂ (edge_at ws) (sym (turn_from (surface n ts ws A) q lq ∙ twin_from n ts (pairs n ts ws A) p l)) (sym (to_twin (surface n ts ws A) (next (next q)) l2)) ∙
        edge_here_holds (turned q))

    pub back_left : back left (third ts) ws (3 * from ts p + c) ≡ edge_here (turned p)
    unfolding back
    back_left =
        let t = out_ends p c e in
        let l2 = (surface n ts ws A).next_in (next p) ((surface n ts ws A).next_in p l) in
        rw (t.1, t.2, left_corner)
        (ap₂ (edge_at ws) (sym (turn_from (surface n ts ws A) p l)) (sym (to_twin (surface n ts ws A) (next (next p)) l2)) ∙ edge_here_holds (turned p))

    pub back_right : back right (third ts) ws (3 * from ts p + c) ≡ edge_here (turned_back p)
    unfolding back
    back_right =
        let t = out_ends p c e in
        rw (t.1, t.2, right_corner)
        (ap₂ (edge_at ws) (sym (turn_back_from (surface n ts ws A) p l)) refl ∙ edge_here_holds (turned_back p))

-- What the array of any mesh holds at a used edge.

pub place_half : (h : Hand) (j : ℕ) → front_place h j / 2 ≡ j
place_half left j = omega arith
place_half right j = omega arith

pub place_hand : (h : Hand) (j : ℕ) → hand_at (front_place h j) ≡ h
place_hand left j = rw (eq-eqb (2 * j % 2) 0 (omega arith))
place_hand right j = rw (ne_eqb ((2 * j + 1) % 2) 0 (omega arith))

place_in : (h : Hand) (j n : ℕ) → j < 3 * n → front_place h j < 6 * n
place_in left j n l = omega arith
place_in right j n l = omega arith

pub reference_at_holds : (n : ℕ) (ts ws : List ℕ) (h : Hand) (j : ℕ) → used j ≡ true → j < 3 * n
    → at (references_of n ts ws) (front_place h j) ≡ front h (third ts) ws j
unfolding references_of references_by reference_at
reference_at_holds n ts ws h j u l =
    get_d_tabulate (reference_at (third ts) ws) (6 * n) (front_place h j) unused_mark (place_in h j n l) ∙
    rw (place_half h j, place_hand h j, u)

pub references_length_holds : (n : ℕ) (ts ws : List ℕ) → length (references_of n ts ws) ≡ 6 * n
unfolding references_of references_by
references_length_holds n ts ws = length_tabulate (reference_at (third ts) ws) (6 * n)

pub service_at_holds : (n : ℕ) (ts ws : List ℕ) (j : ℕ) → used j ≡ true → j < 3 * n
    → at (service_of n ts ws) j ≡ same_source left (third ts) ws j + 2 * same_source right (third ts) ws j
unfolding service_of service_at
service_at_holds n ts ws j u l = get_d_tabulate (service_at (third ts) ws) (3 * n) j unused_mark l ∙ rw u

pub service_length_holds : (n : ℕ) (ts ws : List ℕ) → length (service_of n ts ws) ≡ 3 * n
unfolding service_of
service_length_holds n ts ws = length_tabulate (service_at (third ts) ws) (3 * n)
