-- The whole text of n, triangles and targets, read again, over the digit count: frame by frame it stands where the reader looks, so
-- what the reader takes out of it is what was put in.
use Prim.Native.Nat.{ℕ, ◌+◌, ◌-◌, ◌*◌, ◌/◌, ◌%◌, ◌^◌, ◌≤◌, ◌<◌}
use native.Mathlib.Nat.{add-zero, zero-add, add_assoc, add-sub_cancel_left, mul-add, mul-le-mul_left, mul-suc, mul-div_cancel_left}
use native.Mathlib.Numerals.{add-one, add-one-le}
use native.Mathlib.Omega.{arith}
use mathlib.Core.Path.{◌≡◌, refl, sym, ◌∙◌, ap, ap₂}
use mathlib.Core.List.{List, ◌++◌}
use mathlib.Core.Bool.{true, false, not}
use lib.ListN.{length, length-append}
use lib.Dec.{ltb}
use borrow.Author.Tests.{ltb-false}
use Rattle.mesh.specs.Search.{every, gather}
use Rattle.mesh.specs.Limits.{at, unused_mark}
use Rattle.mesh.proofs.Tests.{by_bool, or_left, or_right}
use Rattle.mesh.proofs.Search.{first_eq, every_of}
use Rattle.mesh.proofs.Lists.{tabulate_is}
use Rattle.frames.specs.Digits.{digits, byte_at, number_at}
use Rattle.frames.specs.Frames.{head_code, triangle_code, vertex_code, line, head_frame, frame_of, table_frames, house_text}
use Rattle.meshtext.specs.Reading.{is_frame, frame_count, triangle_count, placed, is_text, number_in, numbers_from, triangles_in, targets_in, mesh, read_by}
use Rattle.meshtext.specs.Exact.{Written}
use Rattle.frames.specs.Lines.{is_head, head_length, frame_length, frame_place}
use Rattle.frames.proofs.DigitLaws.{length_digits}
use Rattle.frames.proofs.FrameLaws.{length_head, length_triple}
use Rattle.meshtext.proofs.ReadingLaws.{triangles_is, text_of}
use Rattle.frames.proofs.Standing.{Stands, stands_first, stands_second, stands_within, length_pieces, pieces_stand, number_stands}
use Rattle.frames.proofs.DigitTrip.{digits_are, digits_again}
use Rattle.frames.proofs.FrameTrip.{body_stands, line_there, triple_there, triple_no_other, number_of}

-- the frames of a table of m triples
module _ (w code m : ℕ) (xs : List ℕ) (many : length xs ≡ 3 * m) where
  frames_are : table_frames w code xs ≡ gather (frame_of w code xs) m
  unfolding table_frames
  frames_are = let e : length xs / 3 ≡ m = omega arith in ap (gather (frame_of w code xs)) e

  each_long : (i : ℕ) → length (frame_of w code xs i) ≡ frame_length w
  each_long i = length_triple w code (at xs (3 * i)) (at xs (3 * i + 1)) (at xs (3 * i + 2))

  pub length_frames : length (table_frames w code xs) ≡ frame_length w * m
  length_frames = ap length frames_are ∙ length_pieces (frame_of w code xs) (frame_length w) each_long m

  frame_fits : (i : ℕ) → i < m → frame_length w * i + length (frame_of w code xs i) ≤ length (table_frames w code xs)
  frame_fits i l = fit (frame_length w) i m (length (frame_of w code xs i)) (length (table_frames w code xs)) (each_long i) length_frames l
    where
      fit : (k i m a b : ℕ) → a ≡ k → b ≡ k * m → i < m → k * i + a ≤ b
      fit k i m a b e f l = omega (arith, mul-suc k i, mul-le-mul_left k (add-one-le l), ap (λ (j : ℕ). k * j) (add-one i))

  -- frame i of the table stands in a text in which the table's frames stand
  pub frame_stands : (text : List ℕ) (p i : ℕ) → Stands text p (table_frames w code xs) → i < m → Stands text (p + frame_length w * i) (frame_of w code xs i)
  frame_stands text p i s l =
      stands_within text (table_frames w code xs) (frame_of w code xs i) p (frame_length w * i) s
      (rw frames_are (pieces_stand (frame_of w code xs) (frame_length w) each_long m i l)) (frame_fits i l)

place_sum : (h l a i : ℕ) → h + l * a + l * i ≡ h + l * (a + i)
place_sum h l a i = omega (arith, mul-add l a i)

three_at_most : (w k : ℕ) → k < 3 → 2 + w * k + w ≤ 3 + 3 * w
three_at_most w k l = omega (arith, mul-le-mul_left w (let g : k ≤ 2 = omega arith in g))

count_is : (h l m : ℕ) → 0 < l → (h + l * m - h) / l ≡ m
count_is h l m g = ap (λ (k : ℕ). k / l) (add-sub_cancel_left h (l * m)) ∙ mul-div_cancel_left m g

module _ (w n a b : ℕ) (ts vs : List ℕ) (r : Written w n a b ts vs) where
  text : List ℕ
  text = house_text w n ts vs

  ts_frames : List ℕ
  ts_frames = table_frames w triangle_code ts

  vs_frames : List ℕ
  vs_frames = table_frames w vertex_code vs

  text_parts : text ≡ head_frame w n ++ (ts_frames ++ vs_frames)
  unfolding text ts_frames vs_frames house_text
  text_parts = refl

  head_stands : Stands text 0 (head_frame w n)
  head_stands = rw text_parts (stands_first (head_frame w n) (ts_frames ++ vs_frames))

  rest_stands : Stands text (head_length w) (ts_frames ++ vs_frames)
  rest_stands = rw text_parts (stands_second (head_frame w n) (ts_frames ++ vs_frames) (head_length w) (length_head w n))

  length_ts_frames : length ts_frames ≡ frame_length w * a
  unfolding ts_frames
  length_ts_frames = length_frames w triangle_code a ts r.triangles

  length_vs_frames : length vs_frames ≡ frame_length w * b
  unfolding vs_frames
  length_vs_frames = length_frames w vertex_code b vs r.vertices

  triangle_stands : (i : ℕ) → i < a → Stands text (frame_place w i) (frame_of w triangle_code ts i)
  unfolding ts_frames
  triangle_stands i l =
      frame_stands w triangle_code a ts r.triangles text (head_length w) i
      (λ j g. ap (λ (k : ℕ). byte_at text (k + j)) (sym (add-zero (head_length w))) ∙
      stands_within text (ts_frames ++ vs_frames) ts_frames (head_length w) 0 rest_stands (stands_first ts_frames vs_frames) (omega (arith, length-append ts_frames vs_frames)) j g) l

  vertex_stands : (i : ℕ) → i < b → Stands text (frame_place w (a + i)) (frame_of w vertex_code vs i)
  unfolding vs_frames
  vertex_stands i l j g =
      ap (λ (k : ℕ). byte_at text (k + j)) (sym (place_sum (head_length w) (frame_length w) a i)) ∙
      frame_stands w vertex_code b vs r.vertices text (head_length w + frame_length w * a) i
      (stands_within text (ts_frames ++ vs_frames) vs_frames (head_length w) (frame_length w * a) rest_stands (stands_second ts_frames vs_frames (frame_length w * a) length_ts_frames)
      (omega (arith, length-append ts_frames vs_frames, length_ts_frames))) l j g

  text_length : length text ≡ frame_place w (a + b)
  text_length =
      ap length text_parts ∙ length-append (head_frame w n) (ts_frames ++ vs_frames) ∙
      ap₂ (λ (x y : ℕ). x + y) (length_head w n)
      (length-append ts_frames vs_frames ∙ ap₂ (λ (x y : ℕ). x + y) length_ts_frames length_vs_frames ∙ sym (mul-add (frame_length w) a b))

  count : frame_count w text ≡ a + b
  count =
      ap (λ (k : ℕ). (k - head_length w) / frame_length w) text_length ∙
      count_is (head_length w) (frame_length w) (a + b) (omega arith)

  is_head_holds : is_head w text ≡ true
  unfolding head_frame
  is_head_holds =
      line_there text 0 head_code (digits w n) (omega arith) head_stands w (length_digits w n) (digits_are w n)

  head_number : number_at w text 2 ≡ n
  unfolding head_frame
  head_number =
      number_stands text (head_frame w n) 0 2 w head_stands (omega (arith, length_head w n)) ∙
      number_stands (line head_code (digits w n)) (digits w n) 2 0 w (body_stands head_code (digits w n)) (omega (arith, length_digits w n)) ∙
      digits_again w n r.n_small

  is_triangle : (i : ℕ) → i < a → is_frame w triangle_code text i ≡ true
  is_triangle i l =
      triple_there text (frame_place w i) w triangle_code (at ts (3 * i)) (at ts (3 * i + 1)) (at ts (3 * i + 2)) (omega arith) (triangle_stands i l)

  -- a vertex frame is no triangle frame
  module _ (i : ℕ) (l : i < b) where
    is_vertex : is_frame w vertex_code text (a + i) ≡ true
    is_vertex =
        triple_there text (frame_place w (a + i)) w vertex_code (at vs (3 * i)) (at vs (3 * i + 1)) (at vs (3 * i + 2)) (omega arith) (vertex_stands i l)

    no_triangle : is_frame w triangle_code text (a + i) ≡ false
    no_triangle =
        triple_no_other text (frame_place w (a + i)) w vertex_code (at vs (3 * i)) (at vs (3 * i + 1)) (at vs (3 * i + 2)) (omega arith) (vertex_stands i l)
        triangle_code (omega arith) (λ e. omega arith)

  triangles_counted : triangle_count w text ≡ a
  triangles_counted =
      triangles_is w text ∙
      first_eq (λ i. not (is_frame w triangle_code text i)) (frame_count w text) a
      (record {
        bound = omega (arith, count);
        hit = λ l.
            let h : 0 < b = omega (arith, count) in
            ap not (ap (is_frame w triangle_code text) (sym (add-zero a)) ∙ no_triangle 0 h);
        low = λ i l. ap not (is_triangle i l);
      })

  frames_placed : every (placed w text (triangle_count w text)) (frame_count w text) ≡ true
  frames_placed =
      every_of (placed w text (triangle_count w text)) (frame_count w text)
      (λ i l. by_bool (ltb i (triangle_count w text)) (λ t. or_left (ltb i (triangle_count w text)) _ t)
      (λ t.
      let g : a ≤ i = omega (arith, ltb-false i (triangle_count w text) t, triangles_counted) in
      let e : i ≡ a + (i - a) = omega arith in
      or_right (ltb i (triangle_count w text)) _ (ap (is_frame w vertex_code text) e ∙ is_vertex (i - a) (omega (arith, count)))))

  is_text_holds : is_text w text ≡ true
  is_text_holds = text_of w text (record { head = is_head_holds; whole = text_length ∙ ap (frame_place w) (sym count); frames = frames_placed })

  -- number q of the table's frames, if frame q / 3 of the table stands at p
  number_back : (code : ℕ) (xs : List ℕ) (q p : ℕ) → ((j : ℕ) → j < length xs → at xs j < 16 ^ w) → 3 * (q / 3) + 2 < length xs
      → Stands text p (frame_of w code xs (q / 3)) → number_at w text (p + 2 + w * (q % 3)) ≡ at xs q
  number_back code xs q p small inside s =
      ap (number_at w text) (add_assoc p 2 (w * (q % 3))) ∙
      number_stands text (frame_of w code xs (q / 3)) p (2 + w * (q % 3)) w s
      (omega (arith, length_triple w code (at xs (3 * (q / 3))) (at xs (3 * (q / 3) + 1)) (at xs (3 * (q / 3) + 2)), three_at_most w (q % 3) (let g : q % 3 < 3 = omega arith in g))) ∙
      number_of w code xs (q / 3) small inside (q % 3) (omega arith) ∙
      ap (at xs) (let z : 3 * (q / 3) + q % 3 ≡ q = omega arith in z)

  triangles_back : triangles_in w text ≡ ts
  unfolding triangles_in number_in
  triangles_back =
      ap (λ (t : ℕ). numbers_from w text 0 (3 * t)) triangles_counted ∙
      sym (tabulate_is (λ q. number_in w text (0 + q)) (3 * a) ts unused_mark r.triangles
      (λ q l. sym (ap (number_in w text) (zero-add q) ∙
      number_back triangle_code ts q (frame_place w (q / 3)) r.corners_small (let e = r.triangles in omega arith) (triangle_stands (q / 3) (omega arith)))))

  targets_back : targets_in w text ≡ vs
  unfolding targets_in number_in
  targets_back =
      ap₂ (λ (t f : ℕ). numbers_from w text (3 * t) (3 * (f - t))) triangles_counted count ∙
      ap (λ (m : ℕ). numbers_from w text (3 * a) (3 * m)) (add-sub_cancel_left a b) ∙
      sym (tabulate_is (λ q. number_in w text (3 * a + q)) (3 * b) vs unused_mark r.vertices
      (λ q l. sym
      (ap₂ (λ (i k : ℕ). number_at w text (frame_place w i + 2 + w * k)) (let z : (3 * a + q) / 3 ≡ a + q / 3 = omega arith in z) (let z : (3 * a + q) % 3 ≡ q % 3 = omega arith in z) ∙
      number_back vertex_code vs q (frame_place w (a + q / 3)) r.targets_small (let e = r.vertices in omega arith) (vertex_stands (q / 3) (omega arith)))))

pub length_text : (w n a b : ℕ) (ts vs : List ℕ) → Written w n a b ts vs → length (house_text w n ts vs) ≡ frame_place w (a + b)
unfolding text
length_text w n a b ts vs r = text_length w n a b ts vs r

-- what was written is read
pub read_again : (w n a b : ℕ) (ts vs : List ℕ) → Written w n a b ts vs → read_by w (house_text w n ts vs) ≡ mesh n ts vs
unfolding read_by text
read_again w n a b ts vs r =
    rw (is_text_holds w n a b ts vs r, head_number w n a b ts vs r, triangles_back w n a b ts vs r, targets_back w n a b ts vs r)
