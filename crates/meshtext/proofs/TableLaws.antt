-- The lengths of a text's tables, and the table of a wood whose first nine places are stored before the part behind them is filled.
use Prim.Native.Nat.{ℕ, ◌+◌, ◌-◌, ◌*◌}
use native.Mathlib.Omega.{arith}
use mathlib.Core.Path.{◌≡◌, ◌∙◌, ap}
use mathlib.Core.List.{List, ◌++◌}
use lib.ListN.{length, take, drop, length-append, length-drop}
use borrow.Rule.Slice.PartMut.{put_mid}
use Rattle.mesh.specs.Wood.{anchor_targets}
use Rattle.mesh.proofs.Lists.{length_tabulate}
use Rattle.frames.specs.Frames.{width}
use Rattle.frames.proofs.PartLaws.{rest, put_rest}
use Rattle.meshtext.specs.Reading.{frame_count, triangle_count, triangles_in, targets_in}

module _ (text : List ℕ) where
  pub length_triangles : length (triangles_in width text) ≡ 3 * triangle_count width text
  unfolding triangles_in
  length_triangles = length_tabulate _ (3 * triangle_count width text)

  pub length_targets : length (targets_in width text) ≡ 3 * (frame_count width text - triangle_count width text)
  unfolding targets_in
  length_targets = length_tabulate _ (3 * (frame_count width text - triangle_count width text))

  pub length_wood : length (anchor_targets ++ targets_in width text) ≡ 9 + 3 * (frame_count width text - triangle_count width text)
  length_wood = length-append anchor_targets (targets_in width text) ∙ ap (λ (k : ℕ). 9 + k) length_targets

-- the wood's first nine places stored, then the part behind them filled
module _ (l front ys : List ℕ) (stored : front ≡ anchor_targets) where
  long : length (front ++ drop 9 l) ≡ 9 + (length l - 9)
  long = length-append front (drop 9 l) ∙ omega (arith, ap length stored, length-drop 9 l)

  pub behind_anchors : length (take (length (front ++ drop 9 l) - 9) (drop 9 (front ++ drop 9 l))) ≡ length l - 9
  behind_anchors = ap length (rest 9 (front ++ drop 9 l)) ∙ length-drop 9 (front ++ drop 9 l) ∙ omega (arith, long)

  pub anchors_kept : put_mid 9 (length (front ++ drop 9 l) - 9) (front ++ drop 9 l) ys ≡ anchor_targets ++ ys
  anchors_kept =
      put_rest 9 (front ++ drop 9 l) ys (omega (arith, long)) ∙ ap (λ (t : List ℕ). take 9 (t ++ drop 9 l) ++ ys) stored
