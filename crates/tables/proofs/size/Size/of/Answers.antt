-- `of` keeps what is in range.
use mathlib.Core.Path.{sym, ◌∙◌}
use Rattle.mesh.proofs.Limits.{in_range}
use Rattle.tables.proofs.size.Size.of.Goals as goal

pub invariant_of-result : goal.invariant_of-result
invariant_of-result c = record { in_range = in_range c.args.n (sym c.out_of_range.ensures ∙ c.if-out_of_range.false) }
