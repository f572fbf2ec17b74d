-- `target_wrong` is both parts of number 9.
use Prim.Native.Nat.{◌≤◌}
use lib.ListN.{length}
use native.Mathlib.Omega.{arith}
use Rattle.wood.proofs.TargetLaws.{wrong_at_anchors, wrong_behind}
use Rattle.wood.proofs.targets.Wood.target_wrong.Goals as goal

pub returns-then-not-starts_with : goal.returns-then-not-starts_with
returns-then-not-starts_with c =
    let s = c.args.self.now in
    let l : 9 ≤ length s.targets.now = omega (arith, s.whole, s.size.in_range.enough) in
    wrong_at_anchors s.targets.now l s.size.vertices c.starts_with.result c.starts_with.ensures.value c.if-not-starts_with.true

pub returns-else-not-starts_with : goal.returns-else-not-starts_with
returns-else-not-starts_with c =
    let s = c.args.self.now in
    let l : 9 ≤ length s.targets.now = omega (arith, s.whole, s.size.in_range.enough) in
    wrong_behind s.targets.now l s.size.vertices c.starts_with.result c.starts_with.ensures.value c.if-not-starts_with.false _ c.target_too_high.ensures
