-- `next` is the definition's own sum.
use Rattle.mesh.specs.Sides.{next}
use borrow.Author.Rules.{rules}
use Rattle.tables.proofs.side.next.Goals as goal

pub returns : goal.returns
unfolding next
returns c = search rules
