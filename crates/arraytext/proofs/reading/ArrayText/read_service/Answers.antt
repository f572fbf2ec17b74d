-- At the loop's end the places are what the text says.
use Rattle.tables.proofs.FillLaws.{filled_tabulate}
use Rattle.arraytext.specs.ArrayText.{services_in}
use Rattle.arraytext.proofs.reading.ArrayText.read_service.Goals as goal

pub returns : goal.returns
unfolding services_in
returns c = filled_tabulate _ _ _ _ _ c.loop-j.auto.service c.loop-j-test.false c.requires c.loop-j.invariant
