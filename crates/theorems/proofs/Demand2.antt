-- Demand 2: the array of an accepted mesh answers every question about an edge as its triangles do, and Target says how often it read.
-- `quick_as_slow` says it for every edge; `has_corners` says that every edge has a triangle on both sides, so nothing is left out.
use Prim.Native.Nat.{ℕ, ◌*◌, ◌<◌}
use mathlib.Core.Path.{◌≡◌, refl, ap, ◌∙◌}
use mathlib.Core.List.{List, [], ◌∷◌}
use mathlib.Core.Bool.{Bool, true, false, ◌&&◌}
use native.Mathlib.Omega.{arith}
use lib.ListN.{length}
use lib.Dec.{ltb, eqb}
use borrow.Author.Tests.{lt-ltb, eq-eqb}
use Rattle.mesh.specs.Limits.{out_of_range, references_length, service_length}
use Rattle.mesh.specs.Sides.{next, from, to, third}
use Rattle.mesh.specs.Wood.{source, target, used, is_edge, edge_at}
use Rattle.mesh.specs.Verdict.{verdict, Clear}
use Rattle.mesh.specs.Mesh.{Triangle, Edge}
use Rattle.mesh.specs.Array.{Hand, left, right, corner_on, front, back, references_of, service_of}
use Rattle.mesh.specs.Reading.{fronts_in, bytes_in, asked, front_answer, back_answer, target_answer, read_source, read_front, read_back, read_target_of, read_target, read_left_front, read_right_front, read_left_back, read_right_back}
use Rattle.mesh.proofs.Ladder.{free}
use Rattle.mesh.proofs.Tests.{and_of}
use Rattle.mesh.specs.Paired.{twin, turn}
use Rattle.mesh.proofs.Paired.{twin_from, twin_to, next_within, turn_in, turn_from, turn_to}
use Rattle.mesh.proofs.Verdict.{verdict_clear, clear_verdict}
use Rattle.theorems.specs.Demand2.{AnswersEdgeJoining, AnswersAsTriangles}
use Rattle.theorems.proofs.Accepted.{pairs}
use Rattle.theorems.proofs.Acceptance.Corners.{triangle_third}
use Rattle.theorems.proofs.Acceptance.Edges.{edge_used}
use Rattle.theorems.proofs.Acceptance.Carried.{side_joined}
use Rattle.theorems.proofs.Acceptance.Meshes.{accepted_is_mesh}
use Rattle.theorems.proofs.Fronts.{references_length_holds, service_length_holds}
use Rattle.theorems.proofs.Answers.{stands, front_answer_holds, back_answer_holds, target_found}

module _ (n : ℕ) (ts ws : List ℕ) (A : Clear n ts ws) where
  -- the size and the lengths are right, so a question comes to its answer
  in_range : out_of_range n ≡ false
  in_range = free A 1

  asked_right : (j k : ℕ) (lengths : Bool) (answer : List ℕ) → lengths ≡ true → is_edge n j ≡ true → asked n lengths (is_edge n j) k answer ≡ answer
  asked_right j k lengths answer h e = rw (in_range, h, e)

  edge_test : (j : ℕ) → Edge n j → is_edge n j ≡ true
  edge_test j e = and_of (used j) (ltb j (3 * n)) (edge_used n j e) (lt-ltb j (3 * n) e.0)

  -- every edge has a triangle on both sides
  pub corners_of_holds : (j : ℕ) → Edge n j → (w : ℕ) × (z : ℕ) × Triangle ts (source j) (target ws j) w × Triangle ts (target ws j) (source j) z
  corners_of_holds j e =
      let s = stands n ts ws A j (edge_used n j e) e.0 in
      let p : ℕ = s.position in
      let P = pairs n ts ws A in
      let q : ℕ = twin ts p in (
        from ts (next (next p)),
        from ts (next (next q)),
        record { position = p; within = s.within; first_is = s.starts; second_is = s.ends; third_is = refl },
        record { position = q; within = P.twin_in p s.within; first_is = twin_from n ts P p s.within ∙ s.ends; second_is = twin_to n ts P p s.within ∙ s.starts; third_is = refl },
      )

  -- it is an edge, it joins them, and no other does
  joined : (a b : ℕ) (answer : List ℕ) (p : ℕ) → p < length ts → from ts p ≡ a → to ts p ≡ b
      → answer ≡ 0 ∷ edge_at ws a b ∷ [] → AnswersEdgeJoining n ws a b answer
  joined a b answer p l f g h =
      let t = side_joined n ts ws A a b (record { position = p; within = l; starts = f; ends = g }) in
      record {
        edge = edge_at ws a b;
        is_edge_holds = t.0;
        joins = t.1;
        only = λ e i k. (accepted_is_mesh n ts ws (clear_verdict n ts ws A)).pair_once e (edge_at ws a b) a b i t.0 k t.1;
        answered = h;
      }

  -- the sides of the two triangles beside an edge
  module _ (j w z : ℕ) (e : Edge n j) (tl : Triangle ts (source j) (target ws j) w) (tr : Triangle ts (target ws j) (source j) z) where
    u : used j ≡ true
    u = edge_used n j e

    refs : List ℕ
    refs = references_of n ts ws

    service : List ℕ
    service = service_of n ts ws

    corner : (h : Hand) → ℕ
    corner left = w
    corner right = z

    corner_on_holds : (h : Hand) → corner_on h (third ts) (source j) (target ws j) ≡ corner h
    unfolding corner
    corner_on_holds left = triangle_third n ts (pairs n ts ws A) (source j) (target ws j) w tl
    corner_on_holds right = triangle_third n ts (pairs n ts ws A) (target ws j) (source j) z tr

    right_lengths : (eqb (length refs) (references_length n) ≡ true) × (eqb (length service) (service_length n) ≡ true)
    unfolding refs service
    right_lengths =
        (eq-eqb (length (references_of n ts ws)) (6 * n) (references_length_holds n ts ws), eq-eqb (length (service_of n ts ws)) (3 * n) (service_length_holds n ts ws))

    fronts : (h : Hand) → read_front h n refs j ≡ 0 ∷ edge_at ws (target ws j) (corner h) ∷ []
    unfolding read_front refs front
    fronts h =
        asked_right j 14 (eqb (length (references_of n ts ws)) (references_length n)) (front_answer h n (fronts_in (references_of n ts ws)) j) right_lengths.0 (edge_test j e) ∙
        (front_answer_holds n ts ws A h j u e.0 ∙ ap (λ x. 0 ∷ edge_at ws (target ws j) x ∷ []) (corner_on_holds h))

    backs : (h : Hand) → read_back h n refs service j ≡ 0 ∷ edge_at ws (source j) (corner h) ∷ []
    unfolding read_back refs service back
    backs h =
        asked_right j 14 (eqb (length (references_of n ts ws)) (references_length n) && eqb (length (service_of n ts ws)) (service_length n))
        (back_answer h n (fronts_in (references_of n ts ws)) (bytes_in (service_of n ts ws)) j) (and_of _ _ right_lengths.0 right_lengths.1) (edge_test j e) ∙
        (back_answer_holds n ts ws A h j u e.0 ∙ ap (λ x. 0 ∷ edge_at ws (source j) x ∷ []) (corner_on_holds h))

    -- a side from a triangle's second corner to its third, and one from its first to its third
    along : (a b c : ℕ) (answer : List ℕ) → Triangle ts a b c → answer ≡ 0 ∷ edge_at ws b c ∷ [] → AnswersEdgeJoining n ws b c answer
    along a b c answer t h = joined b c answer (next t.position) (next_within n ts (pairs n ts ws A) t.position t.within) t.second_is t.third_is h

    across : (a b c : ℕ) (answer : List ℕ) → Triangle ts a b c → answer ≡ 0 ∷ edge_at ws a c ∷ [] → AnswersEdgeJoining n ws a c answer
    across a b c answer t h =
        let P = pairs n ts ws A in
        let p : ℕ = t.position in
        let l = t.within in
        joined a c answer (turn ts p) (turn_in n ts P p l) (turn_from n ts P p l ∙ t.first_is) (turn_to n ts P p l ∙ t.third_is) h

    pub answers_as_triangles : AnswersAsTriangles n ts ws j w z
    unfolding read_source read_target read_target_of read_left_front read_right_front read_left_back read_right_back refs service corner
    answers_as_triangles =
        let f = target_found n ts ws A j u e.0 in
        let few = f.few in
        record {
          source_is = rw (in_range, edge_test j e);
          reads = f.reads;
          target_is =
              asked_right j 14 (eqb (length (references_of n ts ws)) (references_length n)) (target_answer n (fronts_in (references_of n ts ws)) j) right_lengths.0 (edge_test j e) ∙ f.answer;
          few_reads = omega arith;
          left_front = along (source j) (target ws j) w (read_front left n (references_of n ts ws) j) tl (fronts left);
          right_front = across (target ws j) (source j) z (read_front right n (references_of n ts ws) j) tr (fronts right);
          left_back = across (source j) (target ws j) w (read_back left n (references_of n ts ws) (service_of n ts ws) j) tl (backs left);
          right_back = along (target ws j) (source j) z (read_back right n (references_of n ts ws) (service_of n ts ws) j) tr (backs right);
        }

-- every edge of an accepted mesh has a triangle on its left and one on its right
pub has_corners : (n : ℕ) (ts ws : List ℕ) → verdict n ts ws ≡ 0 → (j : ℕ) → Edge n j
    → (w : ℕ) × (z : ℕ) × Triangle ts (source j) (target ws j) w × Triangle ts (target ws j) (source j) z
has_corners n ts ws v j e = corners_of_holds n ts ws (verdict_clear n ts ws v) j e

-- and every question about it is answered as they say
pub quick_as_slow : (n : ℕ) (ts ws : List ℕ) → verdict n ts ws ≡ 0 → (j w z : ℕ) → Edge n j
    → Triangle ts (source j) (target ws j) w → Triangle ts (target ws j) (source j) z → AnswersAsTriangles n ts ws j w z
quick_as_slow n ts ws v j w z e tl tr = answers_as_triangles n ts ws (verdict_clear n ts ws v) j w z e tl tr
