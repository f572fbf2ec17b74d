-- One turn, sector by sector. The turn by positions meets the labels of the turn by neighbours, and is back at its start after as many
-- steps; so a loop that goes on until it is back has looked at all of them (`OnTurn` is what it knows on the way). From the side of the
-- vertex's edge of colour 0, the labels keep the turn rule exactly where all three sectors are kept.
use Prim.Native.Nat.{ℕ, suc, ◌+◌, ◌-◌, ◌*◌, ◌<◌}
use mathlib.Core.Path.{◌≡◌, sym, ap, ap₂, subst, ◌∙◌}
use mathlib.Core.List.{List}
use mathlib.Core.Bool.{Bool, true, false, not}
use mathlib.Core.Logic.{◌≢◌}
use native.Mathlib.Omega.{arith}
use native.Mathlib.Numerals.{add-one}
use lib.ListN.{length}
use lib.Dec.{ltb, eqb}
use borrow.Author.Count.{below_more}
use borrow.Author.Tests.{ltb-true, ltb-false, eqb-true, not-true, not-false}
use Rattle.mesh.specs.Search.{every, iterate, tabulate}
use Rattle.mesh.specs.Sides.{next, from, to, third, turn_length}
use Rattle.mesh.specs.Wood.{target, edge_of, colour_to, Label, out, label_of, turn_rule, labels_round}
use Rattle.mesh.proofs.Tests.{by_bool, clash, by_order}
use Rattle.mesh.proofs.Search.{first_hit, every_at, every_of}
use Rattle.mesh.proofs.Iterate.{iterate_zero, iterate_step}
use Rattle.mesh.specs.Paired.{Paired, turn}
use Rattle.mesh.proofs.Paired.{turns_in, turns_from, turns_to, simple, next_within}
use Rattle.mesh.proofs.Round.{turn_steps, turn_short, turn_closes, turn_once}
use Rattle.mesh.proofs.TurnRule.{Fine, rule_steps, steps_rule}
use Rattle.tables.specs.Checked.{TwinTable}
use Rattle.tables.specs.Turning.{turn_in_table}
use Rattle.wood.specs.Sectors.{sector_step, label_round, sector_holds}
use Rattle.tables.proofs.EdgeLaws.{colour_0, label_out, label_into, label_bare}
use Rattle.wood.proofs.SectorLaws.{coloured, step_sector, sector_step_holds}

-- sector c's part of the rule, k steps on from the side at start
abbrev pub kept_at : List ℕ → List ℕ → ℕ → ℕ → ℕ → Bool
kept_at ts ws start c k =
    sector_step c (label_round (third ts) ws (from ts start) (to ts start) k) (label_round (third ts) ws (from ts start) (to ts start) (suc k))

-- k steps on, at the side p, the turn is not whole, and nothing was found so far
pub record OnTurn (n : ℕ) (ts ws : List ℕ) (start c k p : ℕ) : Type 0 where
  pub short : k < turn_length n (third ts) (from ts start) (to ts start)
  pub inside : p < length ts
  pub here : p ≡ iterate (turn ts) k start
  pub kept : (i : ℕ) → i < k → kept_at ts ws start c i ≡ true

module _ (n : ℕ) (ts ws : List ℕ) (P : Paired n ts) (start : ℕ) (within : start < length ts) where
  abbrev around : ℕ
  around = turn_length n (third ts) (from ts start) (to ts start)

  abbrev label : ℕ → Label
  label i = label_round (third ts) ws (from ts start) (to ts start) i

  some_side : 0 < around
  some_side = let w = turn_steps n ts P start within in omega arith

  label_at : (k p : ℕ) → p ≡ iterate (turn ts) k start → label_of ws (from ts start) (to ts p) ≡ label k
  label_at k p e = ap (label_of ws (from ts start)) (ap (to ts) e ∙ turns_to n ts P k start within)

  pub turn_begins : (c : ℕ) → OnTurn n ts ws start c 0 start
  turn_begins c = record { short = some_side; inside = within; here = sym (iterate_zero (turn ts) start); kept = λ i l. absurd (omega arith) }

  pub turn_ends : (c k p : ℕ) → OnTurn n ts ws start c k p → k < n
  turn_ends c k p O = let a = O.short in let b = turn_short n ts P start within in omega arith

  -- from the side p, k steps on, to the next one, read in the table of twins; r is what the code found of the two
  module _ (twins : List ℕ) (T : TwinTable ts twins) (c k p q : ℕ) (O : OnTurn n ts ws start c k p) (read : q ≡ turn_in_table twins p) (r : Bool)
      (found : r ≡ sector_step c (label_of ws (from ts p) (to ts p)) (label_of ws (from ts p) (to ts q))) where
    after_is : q ≡ iterate (turn ts) (suc k) start
    unfolding turn
    after_is =
        read ∙ T (next (next p)) (next_within n ts P (next p) (next_within n ts P p O.inside)) ∙ ap (turn ts) O.here ∙
        sym (iterate_step (turn ts) k start)

    found_at : r ≡ kept_at ts ws start c k
    found_at =
        let f : from ts p ≡ from ts start = ap (from ts) O.here ∙ turns_from n ts P k start within in
        found ∙ ap₂ (sector_step c)
        (ap (λ (x : ℕ). label_of ws x (to ts p)) f ∙ label_at k p O.here) (ap (λ (x : ℕ). label_of ws x (to ts q)) f ∙ label_at (suc k) q after_is)

    pub turn_fails : not r ≡ true → false ≡ sector_holds n (third ts) ws (from ts start) (to ts start) c
    unfolding sector_holds
    turn_fails t =
        by_bool (every (kept_at ts ws start c) around)
        (λ u. clash (kept_at ts ws start c k) (every_at (kept_at ts ws start c) around u k O.short) (sym found_at ∙ not-true r t)) (λ u. sym u)

    kept_more : not r ≡ false → (i : ℕ) → i < k + 1 → kept_at ts ws start c i ≡ true
    kept_more t = below_more (λ i. kept_at ts ws start c i ≡ true) k O.kept (sym found_at ∙ not-false r t)

    -- back at the start the turn is whole, elsewhere it is not
    pub turn_whole : not r ≡ false → q ≡ start → true ≡ sector_holds n (third ts) ws (from ts start) (to ts start) c
    unfolding sector_holds
    turn_whole t e =
        let s = O.short in
        let w : suc k ≡ around =
        by_order (suc k) around
        (λ g. absurd (turn_once n ts P start 0 (suc k) within (omega arith) g (iterate_zero (turn ts) start ∙ sym e ∙ after_is))) (λ g. g)
        (λ g. absurd (omega arith)) in
        sym (every_of (kept_at ts ws start c) around (λ i l. kept_more t i (omega arith)))

    pub turn_goes_on : not r ≡ false → q ≢ start → OnTurn n ts ws start c (k + 1) q
    turn_goes_on t e =
        let s = O.short in
        record {
          short =
              by_order (suc k) around (λ g. omega arith)
              (λ g. absurd (e (after_is ∙ ap (λ (i : ℕ). iterate (turn ts) i start) g ∙ turn_closes n ts P start within)))
              (λ g. absurd (omega arith));
          inside = rw after_is (turns_in n ts P (suc k) start within);
          here = rw add-one after_is;
          kept = kept_more t;
        }

  -- Where the side at start is that of its vertex's edge of colour 0.
  module _ (edge : to ts start ≡ target ws (edge_of (from ts start) 0)) where
    labels_are : labels_round n (third ts) ws (from ts start) ≡ tabulate label around
    unfolding labels_round
    labels_are =
        ap (λ (a : ℕ). tabulate (label_round (third ts) ws (from ts start) a) (turn_length n (third ts) (from ts start) a)) (sym edge)

    out_0 : label_of ws (from ts start) (to ts start) ≡ out 0
    out_0 =
        let z : edge_of (from ts start) 0 ≡ 3 * from ts start = omega arith in
        let e : colour_to ws (from ts start) (to ts start) ≡ 0 = colour_0 ws (from ts start) (to ts start) (ap (target ws) (sym z) ∙ sym edge) in
        label_out ws (from ts start) (to ts start) (omega arith) ∙ ap out e

    first_label : label 0 ≡ out 0
    first_label = ap (label_of ws (from ts start)) (iterate_zero (third ts (from ts start)) (to ts start)) ∙ out_0

    last_label : label around ≡ out 0
    last_label = sym (label_at around start (sym (turn_closes n ts P start within))) ∙ out_0

    -- out 0 does not come again within the turn, since no neighbour does
    no_more_0 : (i : ℕ) → 0 < i → i < around → colour_to ws (from ts start) (iterate (third ts (from ts start)) i (to ts start)) ≢ 0
    unfolding colour_to
    no_more_0 i g l e =
        let v : ℕ = from ts start in
        let b : ℕ = iterate (third ts v) i (to ts start) in
        let test : ℕ → Bool = (λ c. eqb (target ws (edge_of v c)) b) in
        let h : target ws (edge_of v 0) ≡ b = eqb-true (target ws (edge_of v 0)) b (ap test (sym e) ∙ first_hit test 3 (omega arith)) in
        let p : ℕ = iterate (turn ts) i start in
        let s : start ≡ p =
        simple n ts P start p within (turns_in n ts P i start within) (sym (turns_from n ts P i start within))
        (edge ∙ h ∙ sym (turns_to n ts P i start within)) in
        turn_once n ts P start 0 i within g l (iterate_zero (turn ts) start ∙ s)

    all_fine : (i : ℕ) → 0 < i → i < around → Fine (label i)
    all_fine i g l =
        let v : ℕ = from ts start in
        let b : ℕ = iterate (third ts v) i (to ts start) in
        by_bool (ltb (colour_to ws v b) 3)
        (λ t.
        let m = ltb-true (colour_to ws v b) 3 t in
        let z = no_more_0 i g l in
        subst Fine (sym (label_out ws v b m)) (omega arith, m))
        (λ t.
        let m = ltb-false (colour_to ws v b) 3 t in
        by_bool (ltb (colour_to ws b v) 3)
        (λ u. subst Fine (sym (label_into ws v b m (ltb-true (colour_to ws b v) 3 u))) tt)
        (λ u. subst Fine (sym (label_bare ws v b m (ltb-false (colour_to ws b v) 3 u))) tt))

    rest : ℕ
    rest = around - 1

    whole : suc rest ≡ around
    unfolding rest
    whole = let w = some_side in omega arith

    -- the rule holds exactly where all three sectors do
    pub sectors_rule : ((c : ℕ) → c < 3 → sector_holds n (third ts) ws (from ts start) (to ts start) c ≡ true)
        → turn_rule 0 (labels_round n (third ts) ws (from ts start)) ≡ true
    unfolding sector_holds
    sectors_rule h =
        let w : (m : ℕ) → m ≡ around → turn_rule 0 (tabulate label m) ≡ true → turn_rule 0 (labels_round n (third ts) ws (from ts start)) ≡ true =
        (λ m e t. ap (turn_rule 0) (labels_are ∙ ap (tabulate label) (sym e)) ∙ t) in
        w (suc rest) whole
        (steps_rule label rest first_label (ap label whole ∙ last_label) (λ i g l. all_fine i g (rw (← whole) l))
        (λ i l. sector_step_holds (label i) (label (suc i)) (coloured ws (from ts start) (iterate (third ts (from ts start)) i (to ts start)))
        (λ c lc. every_at (λ j. sector_step c (label j) (label (suc j))) around (h c lc) i (rw (← whole) l))))

    pub rule_sectors : turn_rule 0 (labels_round n (third ts) ws (from ts start)) ≡ true
        → (c : ℕ) → c < 3 → sector_holds n (third ts) ws (from ts start) (to ts start) c ≡ true
    unfolding sector_holds
    rule_sectors t c lc =
        let r : turn_rule 0 (tabulate label (suc rest)) ≡ true = ap (turn_rule 0) (ap (tabulate label) whole ∙ sym labels_are) ∙ t in
        every_of (λ i. sector_step c (label i) (label (suc i))) around
        (λ i l. step_sector c (label i) (label (suc i)) lc (coloured ws (from ts start) (iterate (third ts (from ts start)) i (to ts start)))
        (rule_steps label rest first_label (ap label whole ∙ last_label) r i (rw whole l)))
