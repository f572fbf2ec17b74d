-- `before` is two steps on.
use mathlib.Core.Path.{sym, ◌∙◌}
use Rattle.mesh.proofs.Positions.{next_next}
use Rattle.tables.proofs.side.before.Goals as goal

pub returns : goal.returns
returns c = c.turned.ensures ∙ sym (next_next _)
