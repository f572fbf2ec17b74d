-- Filling: where the check's tables lead from an edge. They hold the position of its side, so the third corners on both hands are
-- read there and at the reverse; every number that the code meets on the way is in range.
use Prim.Native.Nat.{ℕ, ◌+◌, ◌*◌, ◌%◌, ◌≤◌, ◌<◌}
use mathlib.Core.Path.{◌≡◌, refl, sym, ◌∙◌}
use mathlib.Core.List.{List}
use mathlib.Core.Bool.{Bool, true, false, cond}
use native.Mathlib.Omega.{arith}
use lib.ListN.{length}
use lib.Bits.{bit_or}
use mir.Val.{bool_byte}
use borrow.Author.Tests.{lt-ltb, not-false}
use Rattle.mesh.specs.Search.{some}
use Rattle.mesh.specs.Limits.{at, most_vertices}
use Rattle.mesh.specs.Sides.{next, from, to, side_at, third, is_neighbour}
use Rattle.mesh.specs.Paired.{twin, Paired}
use Rattle.mesh.specs.Wood.{source, target}
use Rattle.mesh.specs.Array.{Hand, left, right, corner_on}
use Rattle.mesh.specs.Verdict.{join_fault, pair_fault, edge_fault, Clear}
use Rattle.mesh.proofs.Tests.{or_false}
use Rattle.mesh.proofs.Search.{some_none}
use Rattle.mesh.proofs.Ladder.{free}
use Rattle.mesh.proofs.Positions.{side_at_law}
use Rattle.mesh.proofs.Paired.{next_within, to_in, third_is, twin_from, twin_to, neighbour_side}
use Rattle.mesh.proofs.Verdict.{verdict_clear}
use Rattle.tables.specs.Checked.{position_of}
use Rattle.tables.proofs.SidedLaws.{meshed}
use Rattle.array.specs.declared.accepted.Edge.{Edge}
use Rattle.array.specs.declared.fill.End.{End}
use Rattle.array.specs.declared.fill.End.TheVariants.{Source, Target}
use Rattle.array.specs.Fill.{vertex_at, corner_at}

-- two bits as the number of both
pub two_bits : (a b : Bool) → bit_or (bool_byte a) (bool_byte b * 2 % 256) ≡ cond a 1 0 + 2 * cond b 1 0
two_bits true true = refl
two_bits true false = refl
two_bits false true = refl
two_bits false false = refl

-- the side of the triangle on that hand of the side at p: itself, or its reverse
abbrev side_on : Hand → List ℕ → ℕ → ℕ
side_on left twins p = p
side_on right twins p = at twins p

-- an edge lies where the tables say: its ends and the corners on both hands are vertices, and are found from its side's position
module _ (e : Edge) where
  abbrev n : ℕ
  n = e.mesh.sided.size.vertices

  abbrev ts : List ℕ
  ts = e.mesh.sided.triangles.now

  abbrev ws : List ℕ
  ws = e.mesh.sided.wood.now

  abbrev twins : List ℕ
  twins = e.mesh.sided.twins.now

  abbrev positions : List ℕ
  positions = e.mesh.sided.positions.now

  pairs : Paired n ts
  pairs = (meshed e.mesh.sided).paired

  corner_in : (p : ℕ) → p < length ts → from ts (next (next p)) ≤ most_vertices
  corner_in p l =
      let c = pairs.corner (next (next p)) (next_within n ts pairs (next p) (next_within n ts pairs p l)) in
      let r = e.mesh.sided.size.in_range in
      omega arith

  -- the corners beside the side at p, which runs from a to b
  side_corner : (a b p : ℕ) → p < length ts → from ts p ≡ a → to ts p ≡ b → (h : Hand) → at ts (next (next (side_on h twins p))) ≡ corner_on h (third ts) a b
  side_corner a b p l f t left = sym (third_is n ts pairs a b p l f t)
  side_corner a b p l f t right =
      rw (e.mesh.sided.twin_table p l)
      (sym (third_is n ts pairs b a (twin ts p) (pairs.twin_in p l) (twin_from n ts pairs p l ∙ t) (twin_to n ts pairs p l ∙ f)))

  side_corner_small : (p : ℕ) → p < length ts → (h : Hand) → at ts (next (next (side_on h twins p))) ≤ most_vertices
  side_corner_small p l left = corner_in p l
  side_corner_small p l right = rw (e.mesh.sided.twin_table p l) (corner_in (twin ts p) (pairs.twin_in p l))

  -- it runs along a side
  side_of_edge : side_at ts (source e.index) (target ws e.index) < length ts
  unfolding edge_fault
  side_of_edge =
      let j : ℕ = e.index in
      let r = e.mesh.sided.size.in_range in
      let c : Clear n ts ws = verdict_clear n ts ws e.mesh.accepted in
      let o = or_false (some (join_fault n (third ts) ws) (3 * n)) (some (pair_fault ws) (3 * n)) (free c 10) in
      let a = some_none (join_fault n (third ts) ws) (3 * n) o.0 j e.inside in
      neighbour_side n ts pairs (omega arith) (source j) (target ws j) (not-false (is_neighbour n (third ts) (source j) (target ws j)) (rw e.in_use at a))

  position_is : at positions e.index ≡ side_at ts (source e.index) (target ws e.index)
  unfolding position_of
  position_is = e.mesh.sided.position_table e.index e.inside ∙ rw (lt-ltb _ (length ts) side_of_edge)

  corner_found : (h : Hand) → at ts (next (next (side_on h twins (at positions e.index)))) ≡ corner_at e h
  corner_found h =
      let s = side_at_law ts (source e.index) (target ws e.index) side_of_edge in
      rw position_is (side_corner _ _ _ side_of_edge s.0 s.1 h)

  pub corner_left : at ts (next (next (at positions e.index))) ≡ corner_at e left
  corner_left = corner_found left

  pub corner_right : at ts (next (next (at twins (at positions e.index)))) ≡ corner_at e right
  corner_right = corner_found right

  pub corner_small : (h : Hand) → corner_at e h ≤ most_vertices
  corner_small h = rw (← corner_found h, position_is) (side_corner_small _ side_of_edge h)

  pub vertex_small : (end : End) → vertex_at e end ≤ most_vertices
  vertex_small Source =
      let r = e.mesh.sided.size.in_range in
      let l = e.inside in
      omega arith
  vertex_small Target =
      let s = side_at_law ts (source e.index) (target ws e.index) side_of_edge in
      let d = to_in n ts pairs _ side_of_edge in
      let r = e.mesh.sided.size.in_range in
      omega (arith, s.1)
