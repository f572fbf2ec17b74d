-- What the program answers, case by case as the code meets them: 19, 20, then the sizes' and the build's; and the lines that these leave.
use Prim.Native.Nat.{ℕ, ◌≤◌, ◌<◌}
use native.Mathlib.Omega.{arith}
use mathlib.Core.Path.{◌≡◌, sym, ◌∙◌, ap, ap₂, subst}
use mathlib.Core.List.{List, ◌++◌}
use mathlib.Core.Bool.{true, false}
use lib.ListN.{length}
use borrow.Author.Tests.{lt-ltb, le-ltb, eq-eqb, ne_eqb}
use Rattle.mesh.specs.Limits.{references_length, service_length}
use Rattle.mesh.specs.Wood.{anchor_targets}
use Rattle.mesh.specs.Verdict.{verdict}
use Rattle.mesh.specs.Array.{references_of, service_of}
use Rattle.std.specs.Bool.{⊤}
use Rattle.std.specs.Result.{IsErrAnd}
use Rattle.std.specs.declared.result.Result.{Result}
use Rattle.std.specs.declared.result.Result.TheVariants.{Ok, Err}
use Rattle.std.proofs.lemmas.List.{take_at}
use Rattle.tables.specs.declared.refusal.Refusal.{Refusal}
use Rattle.tables.specs.declared.size.Size.{Size}
use Rattle.tables.specs.Refusal.{number, number_met}
use Rattle.tables.proofs.RefusalLaws.{number_above}
use Rattle.array.specs.Build.{Build}
use Rattle.array.proofs.BuildLaws.{build_says_holds, build_done}
use Rattle.frames.specs.Digits.{number_at}
use Rattle.frames.specs.Frames.{width, refusal_line, array_text}
use Rattle.frames.specs.Lines.{text_limit}
use Rattle.meshtext.specs.Reading.{is_text, triangles_in, targets_in, read_by, read_text}
use Rattle.meshtext.specs.Answer.{mesh_answer, answer_to, meshlines_of}
use Rattle.meshtext.specs.Shape.{sizes_met, lines_of}
use Rattle.tables.proofs.RungLaws.{handed}
use Rattle.meshtext.proofs.SizeLaws.{sizes_verdict}

module _ (text : List ℕ) where
  pub answer_long : text_limit < length text → meshlines_of text ≡ refusal_line 19
  unfolding meshlines_of
  answer_long l = rw (lt-ltb text_limit (length text) l)

  module _ (short : length text ≤ text_limit) where
    pub answer_short : meshlines_of text ≡ answer_to (read_text text)
    unfolding meshlines_of
    answer_short = rw (le-ltb text_limit (length text) short)

    pub answer_wrong : is_text width text ≡ false → meshlines_of text ≡ refusal_line 20
    unfolding read_text read_by answer_to
    answer_wrong e = answer_short ∙ rw e

    pub answer_mesh : is_text width text ≡ true → meshlines_of text ≡ mesh_answer (number_at width text 2) (triangles_in width text) (anchor_targets ++ targets_in width text)
    unfolding read_text read_by answer_to
    answer_mesh e = answer_short ∙ rw e

module _ (n : ℕ) (ts ws : List ℕ) where
  pub answer_accepted : verdict n ts ws ≡ 0 → mesh_answer n ts ws ≡ array_text n (references_of n ts ws) (service_of n ts ws)
  unfolding mesh_answer
  answer_accepted e = rw (eq-eqb (verdict n ts ws) 0 e)

  pub answer_refused : (k : ℕ) → verdict n ts ws ≡ k → (k ≡ 0 → ⊥) → mesh_answer n ts ws ≡ refusal_line k
  unfolding mesh_answer
  answer_refused k e h = rw (ne_eqb (verdict n ts ws) 0 (λ f. h (sym e ∙ f))) (ap refusal_line e)

-- what a text of a mesh is answered, by its sizes, and by a build into buffers of the right lengths
module _ (text : List ℕ) (short : length text ≤ text_limit) (is : is_text width text ≡ true) where
  abbrev n : ℕ
  n = number_at width text 2

  abbrev ts : List ℕ
  ts = triangles_in width text

  abbrev ws : List ℕ
  ws = anchor_targets ++ targets_in width text

  pub sizes_refused : (k : ℕ) → sizes_met text ≡ k → (k ≡ 0 → ⊥) → meshlines_of text ≡ refusal_line k
  sizes_refused k e h =
      let d : sizes_met text ≡ 0 → ⊥ = λ z. h (sym e ∙ z) in
      answer_mesh text short is ∙ answer_refused n ts ws k (sizes_verdict text d ∙ e) h

  module _ (k : ℕ) (cs vs refs service : List ℕ) (r : Result ⊤ Refusal) (refs' service' : List ℕ) (done : Build k cs vs refs service r refs' service')
      (same_n : k ≡ n) (same_ts : cs ≡ ts) (same_ws : vs ≡ ws) where
    built : Build n ts ws refs service r refs' service'
    built =
        subst (λ (k : ℕ). Build k ts ws refs service r refs' service') same_n
        (subst (λ (cs : List ℕ). Build k cs ws refs service r refs' service') same_ts
        (subst (λ (vs : List ℕ). Build k cs vs refs service r refs' service') same_ws done))

    pub build_accepted : number_met r ≡ 0 → meshlines_of text ≡ array_text k refs' service'
    build_accepted e =
        let q = build_done n ts ws refs service r refs' service' built e in
        answer_mesh text short is ∙ answer_accepted n ts ws q.0 ∙ ap (λ (k : ℕ). array_text k (references_of n ts ws) (service_of n ts ws)) (sym same_n) ∙ sym (ap₂ (array_text k) q.1 q.2)

    pub build_refused : length refs ≡ references_length k → length service ≡ service_length k → (s : Refusal) → r ≡ Err s → meshlines_of text ≡ refusal_line (number s)
    build_refused a b s e =
        let above = number_above s in
        let met : number_met r ≡ number s = ap number_met e in
        answer_mesh text short is ∙
        answer_refused n ts ws (number s)
        (sym (build_says_holds n ts ws refs service (a ∙ ap references_length same_n) (b ∙ ap service_length same_n)) ∙ sym built.answer ∙ met) (λ z. omega arith)

-- the lines of a refusal, and of an array at the front of two tables
pub lines_refused : (r : Result Size Refusal) (s : Refusal) (refs service : List ℕ) (k : ℕ) → IsErrAnd r (λ x. x ≡ s) → number s ≡ k → lines_of r refs service ≡ refusal_line k
lines_refused r s refs service k h e = ap (λ r. lines_of r refs service) (handed h) ∙ ap refusal_line e

pub lines_built : (s : Size) (refs service xs ys : List ℕ) → length refs ≡ references_length s.vertices → length service ≡ service_length s.vertices
    → lines_of (Ok s) (refs ++ xs) (service ++ ys) ≡ array_text s.vertices refs service
lines_built s refs service xs ys e f = ap₂ (array_text s.vertices) (take_at refs xs (references_length s.vertices) e) (take_at service ys (service_length s.vertices) f)
