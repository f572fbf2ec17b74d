-- `holds` goes round once, until it is back at the start: `OnTurn` is kept from side to side.
use Rattle.wood.proofs.RoundLaws.{OnTurn}
use Rattle.wood.proofs.round.Sector.holds.Given as goal

abbrev pub invariant-loop : goal.invariant-loop
invariant-loop l = OnTurn l.self.mesh.size.vertices l.self.mesh.triangles.now l.self.mesh.wood.now l.start l.self.colour l.counter l.p
