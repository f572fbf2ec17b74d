-- The other way: a text that means something is the text of what it means, over the digit count. So number 20 is met exactly by the
-- texts that no n, triangles and targets have. Each line, cut out of the text, is the frame of the numbers read from it.
use Prim.Native.Nat.{ℕ, zero, suc, ◌+◌, ◌-◌, ◌*◌, ◌/◌, ◌%◌, ◌≤◌, ◌<◌}
use native.Mathlib.Nat.{zero-add, add_assoc, add-zero, mul-zero, mul-one, mul-suc, mul-add, mul-le-mul_left, add-sub_of_le}
use native.Mathlib.Numerals.{add-one, add-one-le}
use native.Mathlib.Omega.{arith}
use mathlib.Core.Path.{◌≡◌, refl, sym, ◌∙◌, ap, ap₂}
use mathlib.Core.List.{List, [], ◌∷◌, ◌++◌}
use mathlib.Core.Bool.{true}
use lib.ListN.{length, take, drop}
use lib.Seq.{drop-cons, take-add, drop-drop, take_all}
use borrow.Author.Tests.{lt-ltb, le-ltb}
use Rattle.mesh.specs.Search.{gather}
use Rattle.mesh.specs.Limits.{at, unused_mark}
use Rattle.mesh.proofs.Lists.{gather_none, gather_more, gather_cong, length_tabulate, get_d_tabulate}
use Rattle.frames.specs.Digits.{digit_of, digits, byte_at, is_digit, digit_value, digits_at, number_at}
use Rattle.frames.specs.Frames.{line_feed, head_code, triangle_code, vertex_code, line, head_frame, triple_frame, frame_of, table_frames, house_text}
use Rattle.meshtext.specs.Reading.{is_frame, frame_count, triangle_count, is_text, number_in, numbers_from, triangles_in, targets_in}
use Rattle.frames.specs.Lines.{is_line, head_length, frame_length, frame_place}
use Rattle.frames.proofs.DigitLaws.{digits_more}
use Rattle.frames.proofs.DigitReadLaws.{by_digit, value_below, value_decimal, value_letter, digits_each, digits_within, number_more}
use Rattle.frames.proofs.FrameLaws.{triple_is}
use Rattle.frames.proofs.LineLaws.{line_parts}
use Rattle.meshtext.proofs.ReadingLaws.{triangles_bound, Parts, parts_of, triangle_at, vertex_at}

-- m bytes of a text from place p on
abbrev pub cut : List ℕ → ℕ → ℕ → List ℕ
cut text p m = take m (drop p text)

pub digit_back : (b : ℕ) → is_digit b ≡ true → digit_of (digit_value b) ≡ b
digit_back b e =
    by_digit b e
    (λ l g.
    let v = value_decimal b (omega arith) in
    let h : digit_value b < 10 = omega arith in
    rw (lt-ltb (digit_value b) 10 h) (omega arith))
    (λ l g.
    let v = value_letter b l in
    let h : 10 ≤ digit_value b = omega arith in
    rw (le-ltb (digit_value b) 10 h) (omega arith))

module _ (text : List ℕ) where
  cut_more : (p a b : ℕ) → cut text p (a + b) ≡ cut text p a ++ cut text (p + a) b
  cut_more p a b = take-add a b (drop p text) ∙ ap (λ (l : List ℕ). cut text p a ++ take b l) (drop-drop a p text)

  cut_one : (p : ℕ) → p < length text → cut text p 1 ≡ byte_at text p ∷ []
  cut_one p l = ap (take 1) (drop-cons text p 0 l)

  pub digits_back : (k p : ℕ) → digits_at k text p ≡ true → p + k ≤ length text → digits k (number_at k text p) ≡ cut text p k
  unfolding digits
  digits_back zero p e l = refl
  digits_back (suc k) p e l =
      let d : is_digit (byte_at text (p + k)) ≡ true = digits_each (suc k) text p k e (omega arith) in
      let v = value_below (byte_at text (p + k)) d in
      let m = number_more k text p in
      let high : number_at (suc k) text p / 16 ≡ number_at k text p = omega arith in
      let low : number_at (suc k) text p % 16 ≡ digit_value (byte_at text (p + k)) = omega arith in
      digits_more k (number_at (suc k) text p) ∙
      ap₂ (λ (x y : ℕ). digits k x ++ digit_of y ∷ []) high low ∙
      ap₂ (λ (x : List ℕ) (y : ℕ). x ++ y ∷ [])
      (digits_back k p (digits_within (suc k) text p k p 0 e (omega arith) (omega arith)) (omega arith)) (digit_back (byte_at text (p + k)) d) ∙
      ap (λ (x : List ℕ). cut text p k ++ x) (sym (cut_one (p + k) (omega arith))) ∙
      sym (cut_more p k 1) ∙ ap (cut text p) (add-one k)

  pub line_back : (code m p : ℕ) → code < 256 → is_line code m text p ≡ true → p + (3 + m) ≤ length text → line code (cut text (p + 2) m) ≡ cut text p (3 + m)
  unfolding line
  line_back code m p c e l =
      let q = line_parts code m text p e in
      let two : digits 2 code ≡ cut text p 2 =
      let z : code / 16 % 16 ≡ code / 16 = omega arith in
      ap (λ (x : ℕ). digit_of x ∷ digit_of (code % 16) ∷ []) z ∙
      ap₂ (λ (x y : ℕ). x ∷ y ∷ []) (sym q.0) (sym q.1) ∙
      ap₂ (λ (x y : List ℕ). x ++ y) (sym (cut_one p (omega arith))) (sym (cut_one (p + 1) (omega arith))) ∙
      sym (cut_more p 1 1) in
      let last : line_feed ∷ [] ≡ cut text (p + 2 + m) 1 = ap (λ (x : ℕ). x ∷ []) (sym q.3) ∙ sym (cut_one (p + 2 + m) (omega arith)) in
      ap₂ (λ (x y : List ℕ). x ++ (cut text (p + 2) m ++ y)) two last ∙
      ap (λ (x : List ℕ). cut text p 2 ++ x) (sym (cut_more (p + 2) m 1)) ∙ sym (cut_more p 2 (m + 1)) ∙
      ap (cut text p) (let z : 2 + (m + 1) ≡ 3 + m = omega arith in z)

  triple_back : (w p : ℕ) → digits_at (3 * w) text p ≡ true → p + 3 * w ≤ length text
      → digits w (number_at w text p) ++ (digits w (number_at w text (p + w)) ++ digits w (number_at w text (p + (w + w)))) ≡ cut text p (3 * w)
  triple_back w p e l =
      let one = digits_back w p (digits_within (3 * w) text p w p 0 e (omega arith) (omega arith)) (omega arith) in
      let two = digits_back w (p + w) (digits_within (3 * w) text p w (p + w) w e refl (omega arith)) (omega arith) in
      let three = digits_back w (p + (w + w)) (digits_within (3 * w) text p w (p + (w + w)) (w + w) e refl (omega arith)) (omega arith) in
      ap₂ (λ (x y : List ℕ). x ++ (y ++ digits w (number_at w text (p + (w + w))))) one two ∙
      ap (λ (x : List ℕ). cut text p w ++ (cut text (p + w) w ++ x)) (three ∙ ap (λ (k : ℕ). cut text k w) (let z : p + (w + w) ≡ p + w + w = omega arith in z)) ∙
      ap (λ (x : List ℕ). cut text p w ++ x) (sym (cut_more (p + w) w w)) ∙ sym (cut_more p w (w + w)) ∙
      ap (cut text p) (let z : w + (w + w) ≡ 3 * w = omega arith in z)

  -- the numbers of frame i
  number_in_holds : (w i k : ℕ) → k < 3 → number_in w text (3 * i + k) ≡ number_at w text (frame_place w i + 2 + w * k)
  unfolding number_in
  number_in_holds w i k l =
      ap₂ (λ (x y : ℕ). number_at w text (frame_place w x + 2 + w * y)) (let z : (3 * i + k) / 3 ≡ i = omega arith in z) (let z : (3 * i + k) % 3 ≡ k = omega arith in z)

  pub frame_back : (w code i : ℕ) → code < 256 → is_frame w code text i ≡ true → frame_place w i + frame_length w ≤ length text
      → triple_frame w code (number_in w text (3 * i)) (number_in w text (3 * i + 1)) (number_in w text (3 * i + 2)) ≡ cut text (frame_place w i) (frame_length w)
  frame_back w code i c e l =
      let p : ℕ = frame_place w i in
      let q = line_parts code (3 * w) text p e in
      let a : number_in w text (3 * i) ≡ number_at w text (p + 2) =
      ap (number_in w text) (sym (add-zero (3 * i))) ∙ number_in_holds w i 0 (omega arith) ∙ ap (λ (k : ℕ). number_at w text (p + 2 + k)) (mul-zero w) ∙ ap (number_at w text) (add-zero (p + 2)) in
      let b : number_in w text (3 * i + 1) ≡ number_at w text (p + 2 + w) = number_in_holds w i 1 (omega arith) ∙ ap (λ (k : ℕ). number_at w text (p + 2 + k)) (mul-one w) in
      let d : number_in w text (3 * i + 2) ≡ number_at w text (p + 2 + (w + w)) =
      number_in_holds w i 2 (omega arith) ∙ ap (λ (k : ℕ). number_at w text (p + 2 + k)) (let z : w * 2 ≡ w + w = omega arith in z) in
      triple_is w code (number_in w text (3 * i)) (number_in w text (3 * i + 1)) (number_in w text (3 * i + 2)) ∙
      ap₂ (λ (x y : ℕ). line code (digits w x ++ (digits w y ++ digits w (number_in w text (3 * i + 2))))) a b ∙
      ap (λ (x : ℕ). line code (digits w (number_at w text (p + 2)) ++ (digits w (number_at w text (p + 2 + w)) ++ digits w x))) d ∙
      ap (line code) (triple_back w (p + 2) q.2 (omega arith)) ∙ line_back code (3 * w) p c e l

  -- pieces of one length, cut one after the other
  pieces_back : (p k m : ℕ) → gather (λ i. cut text (p + k * i) k) m ≡ cut text p (k * m)
  pieces_back p k zero = gather_none (λ i. cut text (p + k * i) k) ∙ ap (cut text p) (sym (mul-zero k))
  pieces_back p k (suc m) =
      ap (gather (λ i. cut text (p + k * i) k)) (sym (add-one m)) ∙ gather_more (λ i. cut text (p + k * i) k) m ∙
      ap (λ (x : List ℕ). x ++ cut text (p + k * m) k) (pieces_back p k m) ∙ sym (cut_more p (k * m) k) ∙ ap (cut text p) (sym (mul-suc k m))

  place_of_holds : (w s i : ℕ) → frame_place w (s + i) ≡ frame_place w s + frame_length w * i
  place_of_holds w s i = ap (λ (k : ℕ). head_length w + k) (mul-add (frame_length w) s i) ∙ sym (add_assoc (head_length w) (frame_length w * s) (frame_length w * i))

  -- m frames of one code from frame s on are the frames of the table of their numbers
  table_back : (w code s m : ℕ) → code < 256 → ((i : ℕ) → i < m → is_frame w code text (s + i) ≡ true) → frame_place w (s + m) ≤ length text
      → table_frames w code (numbers_from w text (3 * s) (3 * m)) ≡ cut text (frame_place w s) (frame_length w * m)
  unfolding table_frames
  table_back w code s m c each l =
      let many : length xs / 3 ≡ m = omega (arith, length_tabulate (λ q. number_in w text (3 * s + q)) (3 * m)) in
      ap (gather (frame_of w code xs)) many ∙
      gather_cong (frame_of w code xs) (λ i. cut text (frame_place w s + frame_length w * i) (frame_length w)) m frame ∙
      pieces_back (frame_place w s) (frame_length w) m
    where
      xs : List ℕ
      xs = numbers_from w text (3 * s) (3 * m)

      entry : (i k : ℕ) → i < m → k < 3 → at xs (3 * i + k) ≡ number_in w text (3 * (s + i) + k)
      entry i k g h =
          get_d_tabulate (λ q. number_in w text (3 * s + q)) (3 * m) (3 * i + k) unused_mark (omega arith) ∙
          ap (number_in w text) (let z : 3 * s + (3 * i + k) ≡ 3 * (s + i) + k = omega arith in z)

      entry_0 : (i : ℕ) → i < m → at xs (3 * i) ≡ number_in w text (3 * (s + i))
      entry_0 i g = ap (at xs) (sym (add-zero (3 * i))) ∙ entry i 0 g (omega arith) ∙ ap (number_in w text) (add-zero (3 * (s + i)))

      ends : (i : ℕ) → i < m → frame_place w (s + i) + frame_length w ≤ length text
      ends i g = fit (head_length w) (frame_length w) (s + i) (s + m) (length text) (omega arith) l
        where
          fit : (h k a b n : ℕ) → a < b → h + k * b ≤ n → h + k * a + k ≤ n
          fit h k a b n g l = omega (arith, mul-suc k a, mul-le-mul_left k (add-one-le g), ap (λ (j : ℕ). k * j) (add-one a))

      frame : (i : ℕ) → i < m → frame_of w code xs i ≡ cut text (frame_place w s + frame_length w * i) (frame_length w)
      frame i g =
          ap₂ (λ (x y : ℕ). triple_frame w code x y (at xs (3 * i + 2))) (entry_0 i g) (entry i 1 g (omega arith)) ∙
          ap (triple_frame w code (number_in w text (3 * (s + i))) (number_in w text (3 * (s + i) + 1))) (entry i 2 g (omega arith)) ∙
          frame_back w code (s + i) c (each i g) (ends i g) ∙
          ap (λ (p : ℕ). cut text p (frame_length w)) (place_of_holds w s i)

  -- a text is the text of what it means
  pub text_back : (w : ℕ) → is_text w text ≡ true → house_text w (number_at w text 2) (triangles_in w text) (targets_in w text) ≡ text
  unfolding house_text head_frame triangles_in targets_in
  text_back w e =
      ap₂ (λ (x y : List ℕ). x ++ (y ++ table_frames w vertex_code (numbers_from w text (3 * t) (3 * (f - t))))) head triangles ∙
      ap (λ (x : List ℕ). cut text 0 (head_length w) ++ (cut text (head_length w) (frame_length w * t) ++ x)) vertices ∙
      ap (λ (x : List ℕ). cut text 0 (head_length w) ++ x) (sym (cut_more (head_length w) (frame_length w * t) (frame_length w * (f - t)))) ∙
      ap (λ (p : ℕ). cut text 0 (head_length w) ++ cut text p (frame_length w * t + frame_length w * (f - t))) (sym (zero-add (head_length w))) ∙
      sym (cut_more 0 (head_length w) (frame_length w * t + frame_length w * (f - t))) ∙
      take_all (head_length w + (frame_length w * t + frame_length w * (f - t))) text (omega (arith, parts.whole, split))
    where
      t : ℕ
      t = triangle_count w text

      f : ℕ
      f = frame_count w text

      parts : Parts w text
      parts = parts_of w text e

      bound : t ≤ f
      bound = triangles_bound w text

      split : frame_length w * t + frame_length w * (f - t) ≡ frame_length w * f
      split = sym (mul-add (frame_length w) t (f - t)) ∙ ap (λ (k : ℕ). frame_length w * k) (add-sub_of_le bound)

      head : line head_code (digits w (number_at w text 2)) ≡ cut text 0 (head_length w)
      head =
          let q = line_parts head_code w text 0 parts.head in
          ap (line head_code) (digits_back w 2 q.2 (omega (arith, parts.whole))) ∙ line_back head_code w 0 (omega arith) parts.head (omega (arith, parts.whole))

      triangles : table_frames w triangle_code (numbers_from w text 0 (3 * t)) ≡ cut text (head_length w) (frame_length w * t)
      triangles =
          table_back w triangle_code 0 t (omega arith) (λ i l. ap (is_frame w triangle_code text) (zero-add i) ∙ triangle_at w text e i l)
          (omega (arith, parts.whole, ap (frame_place w) (zero-add t), mul-le-mul_left (frame_length w) bound)) ∙
          ap (λ (p : ℕ). cut text p (frame_length w * t)) (ap (λ (k : ℕ). head_length w + k) (mul-zero (frame_length w)) ∙ add-zero (head_length w))

      vertices : table_frames w vertex_code (numbers_from w text (3 * t) (3 * (f - t))) ≡ cut text (head_length w + frame_length w * t) (frame_length w * (f - t))
      vertices =
          table_back w vertex_code t (f - t) (omega arith) (λ i l. vertex_at w text e (t + i) (omega arith) (omega arith))
          (omega (arith, parts.whole, ap (frame_place w) (add-sub_of_le bound)))
