-- `edge_between` reads the label, whose colour is below 3.
use mathlib.Core.Path.{ap}
use Rattle.mesh.specs.Wood.{edge_at, edge_by}
use Rattle.tables.proofs.EdgeLaws.{colour_out, colour_into}
use native.Mathlib.Omega.{arith}
use Rattle.tables.proofs.edge.edge_between.Goals as goal

pub overflow_add-result : goal.overflow_add-result
overflow_add-result c = let s = c.args in let l = colour_out s.ws.now s.a s.b c.in-Out.colour c.in-Out.ensures in omega arith

pub overflow_add-result-in-Into : goal.overflow_add-result-in-Into
overflow_add-result-in-Into c = let s = c.args in let l = colour_into s.ws.now s.a s.b c.in-Into.colour c.in-Into.ensures in omega arith

pub returns-in-Out : goal.returns-in-Out
unfolding edge_at
returns-in-Out c = ap (edge_by c.args.a c.args.b) c.in-Out.ensures

pub returns-in-Into : goal.returns-in-Into
unfolding edge_at
returns-in-Into c = ap (edge_by c.args.a c.args.b) c.in-Into.ensures

pub returns-in-Bare : goal.returns-in-Bare
unfolding edge_at
returns-in-Bare c = ap (edge_by c.args.a c.args.b) c.in-Bare.ensures
