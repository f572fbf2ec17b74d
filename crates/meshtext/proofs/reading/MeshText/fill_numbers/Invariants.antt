-- The places passed hold the numbers of the frames in a row.
use Rattle.std.proofs.Common.{◌+◌}
use Rattle.frames.specs.Frames.{width}
use Rattle.meshtext.specs.Reading.{number_in}
use Rattle.tables.proofs.FillLaws.{FilledBelow}
use Rattle.meshtext.proofs.reading.MeshText.fill_numbers.Given as goal

abbrev pub invariant-loop-i : goal.invariant-loop-i
invariant-loop-i l = FilledBelow (λ q. number_in width l.self.text.now (l.from + q)) l.i l.table
