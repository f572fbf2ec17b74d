-- Numbers 1 and 2 of a text, by n and the counts of its frames: the tests as the code meets them, what they leave, and that they are
-- the verdict's.
use Prim.Native.Nat.{ℕ}
use mathlib.Core.Path.{◌≡◌, refl, ◌∙◌, ap}
use mathlib.Core.List.{List, [], ◌++◌}
use mathlib.Core.Bool.{true, false, not}
use lib.ListN.{length}
use lib.Dec.{eqb}
use borrow.Author.Tests.{eqb-true, eq-eqb, ne_eqb, not-false}
use Rattle.mesh.specs.Limits.{out_of_range, triangles_length, wood_length, InRange}
use Rattle.mesh.specs.Wood.{anchor_targets}
use Rattle.mesh.specs.Ladder.{end, past}
use Rattle.mesh.specs.Verdict.{wrong_lengths, sized, verdict}
use Rattle.mesh.proofs.Tests.{and_true, and_false_left, and_false_right, and_of}
use Rattle.mesh.proofs.Limits.{in_range}
use Rattle.mesh.proofs.Ladder.{stands, falls, none_first, free, some_then, among, proper, first_none}
use Rattle.mesh.proofs.Verdict.{verdict_is}
use Rattle.frames.specs.Digits.{number_at}
use Rattle.frames.specs.Frames.{width}
use Rattle.meshtext.specs.Reading.{triangles_in, targets_in}
use Rattle.meshtext.specs.Shape.{sizes_met}

module _ (text : List ℕ) where
  abbrev n : ℕ
  n = number_at width text 2

  abbrev ts : List ℕ
  ts = triangles_in width text

  abbrev ws : List ℕ
  ws = anchor_targets ++ targets_in width text

  pub sizes_out : out_of_range n ≡ true → sizes_met text ≡ 1
  unfolding sizes_met
  sizes_out o = stands 1 (out_of_range n) _ o

  module _ (o : out_of_range n ≡ false) where
    sizes_2 : wrong_lengths n ts ws ≡ true → sizes_met text ≡ 2
    unfolding sizes_met
    sizes_2 e = falls 1 (out_of_range n) _ o ∙ stands 2 (wrong_lengths n ts ws) [] e

    pub sizes_corners : (length ts ≡ triangles_length n → ⊥) → sizes_met text ≡ 2
    unfolding wrong_lengths
    sizes_corners h = sizes_2 (ap not (and_false_left (eqb (length ts) (triangles_length n)) _ (ne_eqb (length ts) (triangles_length n) h)))

    pub sizes_wood : (length ws ≡ wood_length n → ⊥) → sizes_met text ≡ 2
    unfolding wrong_lengths
    sizes_wood h = sizes_2 (ap not (and_false_right (eqb (length ts) (triangles_length n)) _ (ne_eqb (length ws) (wood_length n) h)))

    pub sizes_right : length ts ≡ triangles_length n → length ws ≡ wood_length n → sizes_met text ≡ 0
    unfolding sizes_met wrong_lengths
    sizes_right h k =
        none_first (past o (past (ap not (and_of (eqb (length ts) (triangles_length n)) (eqb (length ws) (wood_length n)) (eq-eqb (length ts) (triangles_length n) h) (eq-eqb (length ws) (wood_length n) k))) end))

  -- what the tests leave
  pub sizes_fit : sizes_met text ≡ 0 → InRange n × (length ts ≡ triangles_length n) × (length ws ≡ wood_length n)
  unfolding sizes_met wrong_lengths among proper
  sizes_fit e =
      let h = first_none (sized n (wrong_lengths n ts ws) []) refl e in
      let a = and_true (eqb (length ts) (triangles_length n)) (eqb (length ws) (wood_length n)) (not-false _ (free h 2)) in
      (in_range n (free h 1), eqb-true (length ts) (triangles_length n) a.0, eqb-true (length ws) (wood_length n) a.1)

  -- 1 and 2 are the verdict's
  pub sizes_verdict : (sizes_met text ≡ 0 → ⊥) → verdict n ts ws ≡ sizes_met text
  unfolding sizes_met
  sizes_verdict h = verdict_is n ts ws ∙ some_then (sized n (wrong_lengths n ts ws) []) _ h
