-- `back_early` walks on: after k - 1 steps it is where the walk is, and it was not back yet.
use mathlib.Core.Path.{sym}
use Rattle.mesh.proofs.Iterate.{iterate_zero}
use Rattle.tables.specs.Turning.{turn_in_table}
use Rattle.triangles.proofs.BackLaws.{walk_on, walk_back, walk_clear, walk_end}
use native.Mathlib.Omega.{arith}
use Rattle.triangles.proofs.round.back_early.Goals as goal

pub loop-init : goal.loop-init
loop-init c = (sym (iterate_zero _ _), λ i h. absurd (omega arith))

pub returns-then-q-p : goal.returns-then-q-p
returns-then-q-p c =
    let s = c.args in
    let i = c.loop.invariant in
    sym (walk_back (turn_in_table s.twins.now) s.p c.loop.counter _ _ c.loop.auto.counter i.0 c.turn_at-q.ensures s.d c.loop-test.true c.if-q-p.true)

pub loop-preserved : goal.loop-preserved
loop-preserved c =
    let s = c.args in
    let f = turn_in_table s.twins.now in
    let i = c.loop.invariant in (
      walk_on f s.p c.loop.counter _ _ c.loop.auto.counter i.0 c.turn_at-q.ensures,
      walk_clear f s.p c.loop.counter _ _ c.loop.auto.counter i.0 c.turn_at-q.ensures c.if-q-p.false i.1,
    )

pub returns : goal.returns
returns c =
    let s = c.args in
    sym (walk_end (turn_in_table s.twins.now) s.p c.loop.counter s.d c.loop-test.false c.loop.invariant.1)
