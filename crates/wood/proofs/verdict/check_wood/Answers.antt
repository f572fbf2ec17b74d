-- `check_wood` goes down the ladder: behind each rung that passes it answers what its rest answers. 12 rests on 10 not applying, 13 on 9.
use mathlib.Core.Path.{◌≡◌, refl, sym, ap, ◌∙◌}
use Prim.Native.Nat.{ℕ}
use lib.ListN.{drop}
use Rattle.std.specs.Option.{is_some}
use Rattle.mesh.specs.Sides.{third}
use Rattle.mesh.specs.Ladder.{first_of}
use Rattle.mesh.specs.Verdict.{wood_ladder, edge_fault}
use Rattle.mesh.proofs.Search.{lowest_some}
use Rattle.tables.specs.declared.sided.Sided.{Sided}
use Rattle.tables.specs.declared.refusal.Refusal.TheVariants.{TargetWrong, EdgeWrong, AnchorRule, TurnRule, PathRule}
use Rattle.tables.specs.Refusal.{number_met}
use Rattle.tables.proofs.RungLaws.{passed, goes_on, ends, last, handed}
use Rattle.wood.proofs.VerdictLaws.{inside, joined, edge_by_join, edge_by_pair}
use Rattle.wood.proofs.verdict.check_wood.Goals.{In_ok-refuse_if, In_ok-refuse_if-2, In_ok-refuse_if-3, In_ok-refuse_if-4, Joined-is_some, then-is_some, else-is_some}
use Rattle.wood.proofs.verdict.check_wood.Goals as goal

-- what the ladder answers without its first k rungs
unfoldable answer : ℕ → Sided → ℕ
answer k m = first_of (drop k (wood_ladder m.size.vertices (third m.triangles.now) m.wood.now))

-- number 10, by its two searches
ten : (c : Joined-is_some) → let m = c.args.mesh.now in c.if-is_some.refuse_if ≡ edge_fault m.size.vertices (third m.triangles.now) m.wood.now
ten c =
    let u = c.unjoined_edge in
    let s = c.is_some.ensures in
    elim c.if-is_some.branch [
      | then-is_some w ↦ w.refuse_if-is ∙ s ∙ edge_by_join _ _ _ _ u.ensures (sym s ∙ w.if-is_some.true)
      | else-is_some w ↦
          w.refuse_if-is ∙ w.is_some-else-is_some.ensures ∙
          edge_by_pair _ _ _ _ u.ensures (sym s ∙ w.if-is_some.false) _ w.taken_pair.ensures
    ]

past9 : (c : In_ok-refuse_if) → answer 0 c.args.mesh.now ≡ answer 1 c.args.mesh.now
unfolding answer
past9 c = goes_on TargetWrong c.target_wrong.ensures _ refl c.in_ok-refuse_if.ensures

past10 : (c : In_ok-refuse_if-2) → answer 0 c.args.mesh.now ≡ answer 2 c.args.mesh.now
unfolding answer
past10 c =
    let p = goal.at.In_ok-refuse_if-2 c in
    goes_on EdgeWrong (ten p.Joined-is_some) _ (past9 p.In_ok-refuse_if) c.in_ok-refuse_if-2.ensures

past11 : (c : In_ok-refuse_if-3) → answer 0 c.args.mesh.now ≡ answer 3 c.args.mesh.now
unfolding answer
past11 c = goes_on AnchorRule c.anchor_rule_broken.ensures _ (past10 (goal.at.In_ok-refuse_if-3 c).In_ok-refuse_if-2) c.in_ok-refuse_if-3.ensures

past12 : (c : In_ok-refuse_if-4) → answer 0 c.args.mesh.now ≡ answer 4 c.args.mesh.now
unfolding answer
past12 c =
    goes_on TurnRule (c.is_some-2.ensures ∙ ap is_some c.broken_vertex.ensures ∙ lowest_some _ _) _
    (past11 (goal.at.In_ok-refuse_if-4 c).In_ok-refuse_if-3) c.in_ok-refuse_if-4.ensures

pub returns-in_err-refuse_if : goal.returns-in_err-refuse_if
returns-in_err-refuse_if c =
    ap number_met (handed c.from_residual.ensures.1) ∙ sym (ends TargetWrong c.target_wrong.ensures _ refl _ c.in_err-refuse_if.ensures)

pub returns-in_err-refuse_if-2 : goal.returns-in_err-refuse_if-2
unfolding answer
returns-in_err-refuse_if-2 c =
    let p = goal.at.returns-in_err-refuse_if-2 c in
    ap number_met (handed c.from_residual-in_err-refuse_if-2.ensures.1) ∙
    sym (ends EdgeWrong (ten p.Joined-is_some) _ (past9 p.In_ok-refuse_if) _ c.in_err-refuse_if-2.ensures)

pub returns-in_err-refuse_if-3 : goal.returns-in_err-refuse_if-3
unfolding answer
returns-in_err-refuse_if-3 c =
    ap number_met (handed c.from_residual-in_err-refuse_if-3.ensures.1) ∙
    sym (ends AnchorRule c.anchor_rule_broken.ensures _ (past10 (goal.at.returns-in_err-refuse_if-3 c).In_ok-refuse_if-2) _ c.in_err-refuse_if-3.ensures)

pub invariant_of-broken_vertex : goal.invariant_of-broken_vertex
invariant_of-broken_vertex c =
    record { joined = joined _ _ _ (passed EdgeWrong (ten (goal.at.invariant_of-broken_vertex c).Joined-is_some) c.in_ok-refuse_if-2.ensures) }

pub returns-in_err-refuse_if-4 : goal.returns-in_err-refuse_if-4
unfolding answer
returns-in_err-refuse_if-4 c =
    ap number_met (handed c.from_residual-in_err-refuse_if-4.ensures.1) ∙
    sym (ends TurnRule (c.is_some-2.ensures ∙ ap is_some c.broken_vertex.ensures ∙ lowest_some _ _) _
    (past11 (goal.at.returns-in_err-refuse_if-4 c).In_ok-refuse_if-3) _ c.in_err-refuse_if-4.ensures)

pub invariant_of-broken : goal.invariant_of-broken
invariant_of-broken c = record { inside = inside _ _ (passed TargetWrong c.target_wrong.ensures c.in_ok-refuse_if.ensures) }

pub returns : goal.returns
unfolding answer
returns c = c.refuse_if-5.ensures ∙ last PathRule c.broken.ensures ∙ sym (past12 (goal.at.returns c).In_ok-refuse_if-4)
