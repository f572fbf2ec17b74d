-- `colour_broken` keeps its marks right: each vertex that it has passed ends at the anchor.
use mathlib.Core.Path.{sym, ap}
use mathlib.Core.Bool.{not}
use Rattle.mesh.proofs.Search.{some_of, none_some}
use Rattle.wood.proofs.PathLaws.{none_marked, colour_anchor, colour_found}
use native.Mathlib.Omega.{arith}
use Rattle.wood.proofs.path.Paths.colour_broken.Goals as goal

pub loop-v-init : goal.loop-v-init
loop-v-init c = let s = c.args.self.now.wood in (none_marked _ _ _ 3 s.size.in_range.not_too_many, λ k l. colour_anchor _ _ _ k l)

pub returns-then-not-ends : goal.returns-then-not-ends
returns-then-not-ends c =
    let w = c.ends in
    sym (some_of _ _ c.loop-v.v (omega arith) (colour_found _ _ _ _ c.loop-v.auto.v w.result _ w.ensures (ap not c.if-not-ends.true)))

pub returns : goal.returns
returns c = let s = c.args.self.now.wood in let r = s.size.in_range.enough in sym (none_some _ _ (λ k l. c.loop-v.invariant.1 k (omega arith)))
