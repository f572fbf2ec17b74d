-- `holds` goes round once, until it is back at the start: `OnTurn` is kept from side to side.
use mathlib.Core.Path.{ap}
use mathlib.Core.Bool.{not}
use Rattle.tables.proofs.SidedLaws.{meshed}
use Rattle.wood.proofs.RoundLaws.{turn_begins, turn_ends, turn_fails, turn_whole, turn_goes_on}
use native.Mathlib.Omega.{arith}
use Rattle.wood.proofs.round.Sector.holds.Goals as goal

pub loop-init : goal.loop-init
loop-init c = turn_begins _ _ _ (meshed c.args.self.now.mesh).paired _ c.requires _

pub returns-then-not-keeps : goal.returns-then-not-keeps
returns-then-not-keeps c =
    let m = c.args.self.now.mesh in
    let q = c.turn_at-q in
    let w = c.keeps in
    turn_fails _ _ _ (meshed m).paired _ c.requires _ m.twin_table _ _ _ _ c.loop.invariant q.ensures w.result w.ensures
    (ap not c.if-not-keeps.true)

pub returns-then-q-start : goal.returns-then-q-start
returns-then-q-start c =
    let m = c.args.self.now.mesh in
    let q = c.turn_at-q in
    let w = c.keeps in
    turn_whole _ _ _ (meshed m).paired _ c.requires _ m.twin_table _ _ _ _ c.loop.invariant q.ensures w.result w.ensures
    (ap not c.if-not-keeps.false) c.if-q-start.true

pub loop-preserved : goal.loop-preserved
loop-preserved c =
    let m = c.args.self.now.mesh in
    let q = c.turn_at-q in
    let w = c.keeps in
    turn_goes_on _ _ _ (meshed m).paired _ c.requires _ m.twin_table _ _ _ _ c.loop.invariant q.ensures w.result w.ensures
    (ap not c.if-not-keeps.false) c.if-q-start.false

pub returns : goal.returns
returns c = let l = turn_ends _ _ _ (meshed c.args.self.now.mesh).paired _ c.requires _ _ _ c.loop.invariant in absurd (omega arith)
