-- At the loop's end the places are the wood.
use Rattle.mesh.specs.Rebuild.{rebuilt_wood}
use Rattle.tables.proofs.FillLaws.{filled_tabulate}
use Rattle.rebuild.proofs.targets.Given.decode_wood.Goals as goal

pub returns : goal.returns
unfolding rebuilt_wood
returns c = filled_tabulate _ _ _ _ _ c.loop-j.auto.wood c.loop-j-test.false c.requires c.loop-j.invariant
