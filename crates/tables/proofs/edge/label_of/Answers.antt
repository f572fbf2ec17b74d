-- `label_of` looks for an edge out of a, then for one into it.
use mathlib.Core.Path.{sym}
use Rattle.tables.proofs.EdgeLaws.{found_out, found_into, found_bare}
use Rattle.tables.proofs.edge.label_of.Goals as goal

pub returns-in-Some : goal.returns-in-Some
returns-in-Some c = let s = c.args in found_out s.ws.now s.a s.b _ (sym c.in-Some.ensures)

pub returns-in-Some-colour_to : goal.returns-in-Some-colour_to
returns-in-Some-colour_to c = let s = c.args in found_into s.ws.now s.a s.b _ (sym c.in-None.ensures) (sym c.in-Some-colour_to.ensures)

pub returns-in-None-colour_to : goal.returns-in-None-colour_to
returns-in-None-colour_to c = let s = c.args in found_bare s.ws.now s.a s.b (sym c.in-None.ensures) (sym c.in-None-colour_to.ensures)
