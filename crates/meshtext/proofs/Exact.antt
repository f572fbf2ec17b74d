-- What a text means is exact: a text means n, triangles and targets if and only if it is their text, and it means nothing if and only
-- if it is nobody's. Over the digit count w; `read_text` is the case of three digits.
use Prim.Native.Nat.{ℕ, ◌+◌, ◌-◌, ◌*◌, ◌/◌, ◌%◌, ◌^◌, ◌<◌}
use native.Mathlib.Omega.{arith}
use mathlib.Core.Path.{◌≡◌, sym, ◌∙◌, ap, subst}
use mathlib.Core.List.{List}
use mathlib.Core.Bool.{true}
use Rattle.mesh.specs.Limits.{unused_mark}
use Rattle.mesh.proofs.Tests.{by_bool}
use Rattle.mesh.proofs.Lists.{length_tabulate, get_d_tabulate}
use Rattle.frames.specs.Digits.{number_at}
use Rattle.frames.specs.Frames.{head_code}
use Rattle.meshtext.specs.Reading.{frame_count, triangle_count, is_text, number_in, triangles_in, targets_in, nothing, mesh, read_by}
use Rattle.frames.specs.Lines.{frame_place}
use Rattle.frames.proofs.DigitReadLaws.{number_below}
use Rattle.frames.proofs.LineLaws.{line_parts}
use Rattle.meshtext.proofs.ReadingLaws.{triangles_bound, parts_of, number_digits}
use Rattle.meshtext.proofs.TextTrip.{read_again}
use Rattle.meshtext.specs.Exact.{Written, IsText}
use Rattle.meshtext.proofs.TextBack.{text_back}

module _ (w : ℕ) (text : List ℕ) (e : is_text w text ≡ true) where
  number_small : (q : ℕ) → q < 3 * frame_count w text → number_in w text q < 16 ^ w
  unfolding number_in
  number_small q l = number_below w text (frame_place w (q / 3) + 2 + w * (q % 3)) (number_digits w text e q l)

  numbers_read : Written w (number_at w text 2) (triangle_count w text) (frame_count w text - triangle_count w text) (triangles_in w text) (targets_in w text)
  unfolding triangles_in targets_in
  numbers_read =
      let t = triangle_count w text in
      let m = 3 * (frame_count w text - t) in
      let k = triangles_bound w text in
      record {
        triangles = length_tabulate (λ q. number_in w text (0 + q)) (3 * t);
        vertices = length_tabulate (λ q. number_in w text (3 * t + q)) m;
        n_small = number_below w text 2 (line_parts head_code w text 0 (parts_of w text e).head).2;
        corners_small = λ j l.
            let g : j < 3 * t = omega (arith, length_tabulate (λ q. number_in w text (0 + q)) (3 * t)) in
            omega (arith, get_d_tabulate (λ q. number_in w text (0 + q)) (3 * t) j unused_mark g, number_small (0 + j) (omega arith));
        targets_small = λ j l.
            let g : j < m = omega (arith, length_tabulate (λ q. number_in w text (3 * t + q)) m) in
            omega (arith, get_d_tabulate (λ q. number_in w text (3 * t + q)) m j unused_mark g, number_small (3 * t + j) (omega arith));
      }

  pub read_is : IsText w text (number_at w text 2) (triangles_in w text) (targets_in w text)
  read_is = record {
    a = triangle_count w text;
    b = frame_count w text - triangle_count w text;
    numbers = numbers_read;
    same = text_back text w e;
  }

carried : (w : ℕ) (text : List ℕ) (n k : ℕ) (ts us vs xs : List ℕ) → mesh k us xs ≡ mesh n ts vs → IsText w text k us xs → IsText w text n ts vs
carried w text n k ts us vs xs e q =
    let a : k ≡ n = cc in
    let b : us ≡ ts = cc in
    let c : xs ≡ vs = cc in
    subst (λ (n : ℕ). IsText w text n ts vs) a (subst (λ (ts : List ℕ). IsText w text k ts vs) b (subst (IsText w text k us) c q))

apart : (n : ℕ) (ts vs : List ℕ) → nothing ≡ mesh n ts vs → ⊥
apart n ts vs e = let z : ◌≡◌ {A = ℕ} 0 1 = cc in omega arith

-- what is read is what the text is of
pub meaning_sound : (w : ℕ) (text : List ℕ) (n : ℕ) (ts vs : List ℕ) → read_by w text ≡ mesh n ts vs → IsText w text n ts vs
unfolding read_by
meaning_sound w text n ts vs e =
    by_bool (is_text w text) (λ t. carried w text n _ ts _ vs _ (rw t at e) (read_is w text t)) (λ t. absurd (apart n ts vs (rw t at e)))

-- and the text of something is read
pub meaning_complete : (w : ℕ) (text : List ℕ) (n : ℕ) (ts vs : List ℕ) → IsText w text n ts vs → read_by w text ≡ mesh n ts vs
meaning_complete w text n ts vs q = ap (read_by w) (sym q.same) ∙ read_again w n q.a q.b ts vs q.numbers

-- 20 exactly: nothing is read where the text is nobody's, and only there
pub nothing_sound : (w : ℕ) (text : List ℕ) → read_by w text ≡ nothing → (n : ℕ) (ts vs : List ℕ) → IsText w text n ts vs → ⊥
nothing_sound w text e n ts vs q = apart n ts vs (sym e ∙ meaning_complete w text n ts vs q)

pub nothing_complete : (w : ℕ) (text : List ℕ) → ((n : ℕ) (ts vs : List ℕ) → IsText w text n ts vs → ⊥) → read_by w text ≡ nothing
unfolding read_by
nothing_complete w text h = by_bool (is_text w text) (λ t. absurd (h _ _ _ (read_is w text t))) (λ t. rw t)
