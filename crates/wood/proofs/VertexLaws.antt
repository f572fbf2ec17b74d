-- The turn rule at an inner vertex, from the side of its edge of colour 0: that side is there since the edge joins two neighbours, and
-- the rule holds exactly where the turn from it keeps all three sectors.
use Prim.Native.Nat.{ℕ, ◌*◌, ◌/◌, ◌≤◌, ◌<◌}
use mathlib.Core.Path.{◌≡◌, sym, ap, ◌∙◌}
use mathlib.Core.List.{List}
use mathlib.Core.Bool.{Bool, true, false, not}
use native.Mathlib.Omega.{arith}
use lib.ListN.{length}
use borrow.Author.Tests.{le-leb, lt-leb, lt-ltb, not-false}
use Rattle.mesh.specs.Search.{some, every}
use Rattle.mesh.specs.Limits.{at}
use Rattle.mesh.specs.Sides.{from, to, side_at, third, is_neighbour}
use Rattle.mesh.specs.Wood.{source, target, edge_of, used, turn_rule, labels_round}
use Rattle.mesh.specs.Verdict.{join_fault, turn_rule_fault}
use Rattle.mesh.proofs.Tests.{by_bool, clash, and_fails}
use Rattle.mesh.proofs.Search.{some_none, every_at, every_of}
use Rattle.mesh.proofs.Positions.{side_at_law}
use Rattle.mesh.proofs.Paired.{neighbour_side}
use Rattle.tables.specs.Checked.{position_of, Filled}
use Rattle.wood.specs.Sectors.{sector_holds}
use Rattle.tables.proofs.EdgeLaws.{used_inner}
use Rattle.wood.proofs.RoundLaws.{sectors_rule, rule_sectors}

-- an anchor has no turn rule
pub anchor_turn : (n : ℕ) (x : ℕ → ℕ → ℕ) (ws : List ℕ) (v : ℕ) → v < 3 → turn_rule_fault n x ws v ≡ false
anchor_turn n x ws v l = rw (lt-leb 3 v l)

module _ (n : ℕ) (ts ws twins positions : List ℕ) (F : Filled n ts ws twins positions) (J : some (join_fault n (third ts) ws) (3 * n) ≡ false) (v start : ℕ) (inner : 3 ≤ v) (below : v < n)
    (read : start ≡ at positions (3 * v)) where
  edge_side : side_at ts (source (3 * v)) (target ws (3 * v)) < length ts
  edge_side =
      let m = F.meshed.range.not_too_many in
      and_fails (used (3 * v)) (not (is_neighbour n (third ts) (source (3 * v)) (target ws (3 * v))))
      (some_none (join_fault n (third ts) ws) (3 * n) J (3 * v) (omega arith))
      (λ t. clash (used (3 * v)) (used_inner (3 * v) (omega arith)) t)
      (λ t. neighbour_side n ts F.meshed.paired (omega arith) (source (3 * v)) (target ws (3 * v))
      (not-false (is_neighbour n (third ts) (source (3 * v)) (target ws (3 * v))) t))

  start_is : start ≡ side_at ts (source (3 * v)) (target ws (3 * v))
  unfolding position_of
  start_is = read ∙ F.position_table (3 * v) (omega arith) ∙ rw (lt-ltb (side_at ts (source (3 * v)) (target ws (3 * v))) (length ts) edge_side)

  pub start_in : start < length ts
  start_in = rw start_is edge_side

  start_from : from ts start ≡ v
  start_from =
      let q : 3 * v / 3 ≡ v = omega arith in
      ap (from ts) start_is ∙ (side_at_law ts (source (3 * v)) (target ws (3 * v)) edge_side).0 ∙ q

  start_to : to ts start ≡ target ws (edge_of (from ts start) 0)
  start_to =
      let q : 3 * v ≡ edge_of (from ts start) 0 = omega (arith, start_from) in
      ap (to ts) start_is ∙ (side_at_law ts (source (3 * v)) (target ws (3 * v)) edge_side).1 ∙ ap (target ws) q

  rule_at : turn_rule 0 (labels_round n (third ts) ws (from ts start)) ≡ turn_rule 0 (labels_round n (third ts) ws v)
  rule_at = ap (λ (x : ℕ). turn_rule 0 (labels_round n (third ts) ws x)) start_from

  abbrev kept : ℕ → Bool
  kept c = sector_holds n (third ts) ws (from ts start) (to ts start) c

  -- the rule is broken where not all three sectors are kept
  pub turn_sectors : not (every kept 3) ≡ turn_rule_fault n (third ts) ws v
  turn_sectors =
      let P = F.meshed.paired in
      by_bool (turn_rule 0 (labels_round n (third ts) ws v))
      (λ u.
      let t : every kept 3 ≡ true = every_of kept 3 (rule_sectors n ts ws P start start_in start_to (rule_at ∙ u)) in
      rw (t, le-leb 3 v inner, u))
      (λ u.
      let t : every kept 3 ≡ false =
      by_bool (every kept 3)
      (λ h. clash (turn_rule 0 (labels_round n (third ts) ws v)) (sym rule_at ∙ sectors_rule n ts ws P start start_in start_to (every_at kept 3 h)) u)
      (λ h. h) in
      rw (t, le-leb 3 v inner, u))
