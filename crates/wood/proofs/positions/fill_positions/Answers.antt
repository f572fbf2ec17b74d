-- `fill_positions` passes over the sides: each edge holds the last position that it was seen to run along, which at the end is its only one.
use mathlib.Core.Path.{◌≡◌, refl, ap, ◌∙◌}
use lib.ListN.{length}
use Rattle.tables.proofs.CheckedLaws.{positions_all}
use Rattle.wood.proofs.PositionLaws.{seen_at, seen_fresh, seen_more, seen_all}
use native.Mathlib.Omega.{arith}
use Rattle.wood.proofs.positions.fill_positions.Goals as goal

pub loop-p-init : goal.loop-p-init
loop-p-init c = (refl, λ e. seen_fresh _ _ e c.args.positions.now _ c.mark_all.ensures)

pub loop-p-preserved : goal.loop-p-preserved
loop-p-preserved c =
    let r = c.position_side.ensures in
    (r.same_length ∙ c.loop-p.invariant.0, λ e. seen_more _ _ e c.loop-p.p _ _ (r.each e) (c.loop-p.invariant.1 e))

pub returns : goal.returns
returns c =
    let a = c.args in
    let e : c.loop-p.p ≡ length a.ts.now = omega arith in
    positions_all _ _ _ _ (c.loop-p.invariant.0 ∙ c.mark_all.auto.table ∙ c.requires.1)
    (λ k l. c.loop-p.invariant.1 k ∙ ap (seen_at a.ts.now a.ws.now k) e ∙ seen_all _ _ _ c.requires.0.paired k)
