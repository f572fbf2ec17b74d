-- The answer as a whole: the text of an accepted mesh is answered by its array's text, no such text is too long, and no answer is
-- longer than the program's buffer.
use Prim.Native.Nat.{ℕ, ◌-◌, ◌*◌, ◌≤◌}
use native.Mathlib.Omega.{arith}
use mathlib.Core.Path.{◌≡◌, refl, ◌∙◌, ap}
use mathlib.Core.List.{List, ◌++◌}
use lib.ListN.{length, drop}
use lib.Dec.{ltb, eqb}
use borrow.Author.Tests.{ltb-true, ltb-false, eqb-true, eqb-false}
use Rattle.mesh.specs.Wood.{anchor_targets}
use Rattle.mesh.specs.Verdict.{verdict}
use Rattle.mesh.specs.Array.{references_of, service_of}
use Rattle.mesh.proofs.Tests.{by_bool}
use Rattle.frames.specs.Frames.{width, refusal_line, mesh_text, array_text}
use Rattle.meshtext.specs.Reading.{Meaning, nothing, mesh, read_text}
use Rattle.meshtext.specs.Answer.{mesh_answer, answer_to, meshlines_of}
use Rattle.frames.specs.Lines.{frame_place, frame_total, text_limit, output_limit}
use Rattle.frames.proofs.FrameLaws.{length_refusal}
use Rattle.meshtext.proofs.ArrayLaws.{length_array}
use Rattle.meshtext.proofs.TextTrip.{length_text}
use Rattle.meshtext.proofs.RoundTrip.{sized, as_written, wood_again, round_trip}
use Rattle.meshtext.proofs.AnswerLaws.{answer_long, answer_short, answer_accepted, answer_refused}

module _ (n : ℕ) (ts ws : List ℕ) (accepted : verdict n ts ws ≡ 0) where
  pub length_mesh_text : length (mesh_text n ts ws) ≡ frame_place width (frame_total n)
  unfolding mesh_text
  length_mesh_text = length_text width n (2 * n - 4) (n - 3) ts (drop 9 ws) (as_written n ts ws accepted)

  pub not_too_long : length (mesh_text n ts ws) ≤ text_limit
  not_too_long = let r = (sized n ts ws accepted).range in omega (arith, length_mesh_text)

  pub mesh_answered : meshlines_of (mesh_text n ts ws) ≡ array_text n (references_of n ts ws) (service_of n ts ws)
  unfolding answer_to
  mesh_answered =
      answer_short (mesh_text n ts ws) not_too_long ∙ ap answer_to (round_trip n ts ws accepted) ∙
      ap (mesh_answer n ts) (wood_again n ts ws accepted) ∙ answer_accepted n ts ws accepted

refusal_short : (k : ℕ) → length (refusal_line k) ≤ output_limit
refusal_short k = omega (arith, length_refusal k)

mesh_short : (n : ℕ) (ts ws : List ℕ) → length (mesh_answer n ts ws) ≤ output_limit
mesh_short n ts ws =
    by_bool (eqb (verdict n ts ws) 0)
    (λ t.
    let e : verdict n ts ws ≡ 0 = eqb-true (verdict n ts ws) 0 t in
    let r = (sized n ts ws e).range in
    rw (answer_accepted n ts ws e) (omega (arith, length_array (references_of n ts ws) (service_of n ts ws) n r.enough)))
    (λ t. rw (answer_refused n ts ws (verdict n ts ws) refl (eqb-false (verdict n ts ws) 0 t)) (refusal_short (verdict n ts ws)))

meaning_short : (m : Meaning) → length (answer_to m) ≤ output_limit
unfolding answer_to
meaning_short nothing = refusal_short 20
meaning_short (mesh n ts vs) = mesh_short n ts (anchor_targets ++ vs)

-- whatever the text
pub answer_fits : (text : List ℕ) → length (meshlines_of text) ≤ output_limit
answer_fits text =
    by_bool (ltb text_limit (length text)) (λ t. rw (answer_long text (ltb-true text_limit (length text) t)) (refusal_short 19))
    (λ t. rw (answer_short text (ltb-false text_limit (length text) t)) (meaning_short (read_text text)))
