-- `fill_wood` has the nine anchor targets stored, and the part behind them filled.
use mathlib.Core.Path.{◌≡◌, ap, ap₂, ◌∙◌}
use Prim.Native.Nat.{ℕ, ◌-◌, ◌*◌}
use mathlib.Core.List.{List, [], ◌++◌}
use lib.ListN.{length}
use Rattle.mesh.specs.Wood.{anchor_targets}
use Rattle.frames.specs.Frames.{width}
use Rattle.meshtext.specs.Reading.{numbers_from, frame_count, triangle_count, targets_in}
use Rattle.meshtext.proofs.ReadingLaws.{triangles_bound}
use Rattle.meshtext.proofs.TableLaws.{behind_anchors, anchors_kept}
use native.Mathlib.Omega.{arith}
use Rattle.meshtext.proofs.reading.MeshText.fill_wood.Goals as goal

pub overflow_mul-self : goal.overflow_mul-self
overflow_mul-self c = omega (arith, triangles_bound width c.args.self.now.text.now)

pub fill_numbers-requires : goal.fill_numbers-requires
fill_numbers-requires c =
    let t = c.args.self.now.text.now in
    let b = behind_anchors c.args.wood.now c.copy_from_slice.new.self [] c.copy_from_slice.ensures.after in
    omega (arith, triangles_bound width t, c.requires)

pub returns : goal.returns
unfolding targets_in
returns c =
    let t = c.args.self.now in
    let w = c.args.wood.now in
    let front = c.copy_from_slice.new.self in
    let ys = c.fill_numbers.new.table in
    let b = behind_anchors w front ys c.copy_from_slice.ensures.after in
    let e : length w - 9 ≡ 3 * (frame_count width t.text.now - triangle_count width t.text.now) = omega (arith, c.requires) in
    anchors_kept w front ys c.copy_from_slice.ensures.after ∙
    ap (λ (l : List ℕ). anchor_targets ++ l) (c.fill_numbers.ensures ∙ ap₂ (numbers_from width t.text.now) (ap (λ (k : ℕ). 3 * k) t.triangles_are) (b ∙ e))
