-- `sector_of`: a label's colour is below 3.
use Rattle.tables.proofs.EdgeLaws.{colour_into}
use native.Mathlib.Omega.{arith}
use Rattle.wood.proofs.round.sector_of.Goals as goal

pub overflow_add-result : goal.overflow_add-result
overflow_add-result c = let s = c.args in let l = colour_into s.ws.now s.v s.b c.in-Into.colour c.in-Into.ensures in omega arith
