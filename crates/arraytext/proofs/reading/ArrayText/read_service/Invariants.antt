-- The places passed hold what the text says there.
use Rattle.tables.proofs.FillLaws.{FilledBelow}
use Rattle.arraytext.specs.ArrayText.{service_in}
use Rattle.arraytext.proofs.reading.ArrayText.read_service.Given as goal

abbrev pub invariant-loop-j : goal.invariant-loop-j
invariant-loop-j l = FilledBelow (service_in l.self.text.now) l.j l.service
