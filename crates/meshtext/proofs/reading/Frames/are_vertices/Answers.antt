-- `are_vertices` asks it of each frame from that one on.
use Rattle.std.proofs.Common.{rules, tests, refl}
use mathlib.Core.Path.{◌∙◌}
use Rattle.std.proofs.lemmas.Iterator.{YieldsList-from_range}
use Rattle.std.proofs.lemmas.Iterator.Search.{all_from_yields_List}
use Rattle.frames.specs.Frames.{width, vertex_code}
use Rattle.meshtext.specs.Reading.{is_frame}
use Rattle.meshtext.proofs.ReadingLaws.{placed_from}
use Rattle.meshtext.proofs.reading.Frames.are_vertices.Goals as goal

pub returns : goal.returns
returns c =
    let a = c.args.self in
    all_from_yields_List (is_frame width vertex_code a.text.now) _ _ _ c.all.ensures.ran (YieldsList-from_range c.args.from a.count _ refl refl) (λ x b q k. search (rules, tests)) ∙
    placed_from a.text.now c.args.from a.count
