-- `triangles` finds the first frame that is no triangle frame.
use Rattle.std.proofs.Common.{rules, tests, refl}
use Prim.Native.Nat.{ℕ}
use mathlib.Core.Path.{ap, ◌∙◌}
use mathlib.Core.Bool.{not}
use Rattle.std.specs.Option.{unwrap_or}
use Rattle.mesh.proofs.Ranges.{lowest_from_find}
use Rattle.frames.specs.Frames.{width, triangle_code}
use Rattle.meshtext.specs.Reading.{is_frame}
use Rattle.meshtext.proofs.ReadingLaws.{lowest_or_all}
use native.Mathlib.Omega.{arith}
use Rattle.meshtext.proofs.reading.Frames.triangles.Goals as goal

pub returns : goal.returns
returns c =
    let a = c.args.self in
    let p = λ (i : ℕ). not (is_frame width triangle_code a.text.now i) in
    let e = lowest_from_find p 0 a.count (λ k l. absurd (omega arith)) _ _ _ c.find.ensures.ran refl (λ x b q k. search (rules, tests)) in
    c.unwrap_or.ensures ∙ ap (λ o. unwrap_or o a.count) e ∙ lowest_or_all p a.count
