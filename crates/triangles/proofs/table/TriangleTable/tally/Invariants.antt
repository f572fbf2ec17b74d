-- `tally` passes the sides in order: the table tells of those passed.
use Rattle.triangles.specs.Turns.{Tally}
use Rattle.triangles.proofs.table.TriangleTable.tally.Given as goal

abbrev pub invariant-loop-p : goal.invariant-loop-p
invariant-loop-p l = Tally l.self.corners.now l.p l.spokes
