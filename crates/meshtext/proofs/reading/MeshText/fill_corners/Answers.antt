-- `fill_corners` fills the table by the numbers of the triangle frames.
use mathlib.Core.Path.{ap, ◌∙◌}
use Rattle.frames.specs.Frames.{width}
use Rattle.meshtext.specs.Reading.{numbers_from, triangles_in}
use Rattle.meshtext.proofs.ReadingLaws.{triangles_bound}
use native.Mathlib.Omega.{arith}
use Rattle.meshtext.proofs.reading.MeshText.fill_corners.Goals as goal

pub fill_numbers-requires : goal.fill_numbers-requires
fill_numbers-requires c = omega (arith, triangles_bound width c.args.self.now.text.now, c.requires)

pub returns : goal.returns
unfolding triangles_in
returns c = c.fill_numbers.ensures ∙ ap (numbers_from width c.args.self.now.text.now 0) c.requires
