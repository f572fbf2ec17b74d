-- Back on either hand. At its source an edge of colour c out has beside it, on that hand, out c+s or into c+2s (`Near`); at its
-- target, into c or out c+s (`Far`); s is 1 on the left and 2 on the right. So the bit tells the first two apart, and the colour of
-- the Front the other two: one law (`back_reads`) serves both hands. The colour law holds off the outer triangle; the three
-- exceptions that lie on it are read from the list.
use Prim.Native.Nat.{ℕ, ◌+◌, ◌*◌, ◌/◌, ◌%◌, ◌≤◌, ◌<◌}
use mathlib.Core.Path.{◌≡◌, refl, sym, ap, ◌∙◌}
use mathlib.Core.List.{[], ◌∷◌}
use mathlib.Core.Bool.{true, false, cond}
use mathlib.Core.Logic.{◌≢◌}
use native.Mathlib.Omega.{arith}
use lib.Dec.{eqb}
use borrow.Author.Tests.{le-ltb, eq-eqb, ne_eqb}
use Rattle.mesh.specs.Limits.{most_service}
use Rattle.mesh.specs.Wood.{Label, out, into, bare, source, colour, edge_of, is_edge, edge_by}
use Rattle.mesh.specs.Array.{Hand, left, right}
use Rattle.mesh.specs.Reading.{edge_answer, bit_of, step_of, beside_source, back_by_front, inner_back}
use Rattle.mesh.proofs.TurnRule.{Step}
use Rattle.theorems.proofs.Rotation.{Rotation, turn, turn_back, turn_in, turn_from, turn_next, turn_back_from, turn_turn_back, to_twin}
use Rattle.theorems.proofs.Coloured.{Coloured, swap, edge, edge_twin}

-- The reading, case by case.
module _ (h : Hand) (n : ℕ) (fronts : Hand → ℕ → ℕ) where
  pub answers : (e : ℕ) → is_edge n e ≡ true → edge_answer n e ≡ 0 ∷ e ∷ []
  unfolding edge_answer
  answers e u = rw u

  when_set : (byte j : ℕ) → byte ≤ most_service → bit_of h byte ≡ 1 → inner_back h n fronts byte j ≡ edge_answer n (beside_source h j)
  unfolding inner_back
  when_set byte j l b = rw (le-ltb most_service byte l, b)

  when_clear : (byte j : ℕ) → byte ≤ most_service → bit_of h byte ≡ 0 → is_edge n (fronts h j) ≡ true
      → inner_back h n fronts byte j ≡ back_by_front h n fronts j (fronts h j)
  unfolding inner_back
  when_clear byte j l b u = rw (le-ltb most_service byte l, b, u)

  same_colour : (j f : ℕ) → colour f ≡ colour j → back_by_front h n fronts j f ≡ edge_answer n (edge_of (source f) ((colour j + 2 * step_of h) % 3))
  unfolding back_by_front
  same_colour j f e = rw (eq-eqb (colour f) (colour j) e)

  next_colour : (j f : ℕ) → colour f ≢ colour j → colour f ≡ (colour j + step_of h) % 3 → back_by_front h n fronts j f ≡ edge_answer n (fronts h f)
  unfolding back_by_front
  next_colour j f d e = rw (ne_eqb (colour f) (colour j) d, eq-eqb (colour f) ((colour j + step_of h) % 3) e)

-- an edge's colour, as a number, and that a colour and the next ones differ
colour_of : (v c : ℕ) → c < 3 → (3 * v + c) % 3 ≡ c
colour_of v c l = omega arith

third_less : (c s : ℕ) → (c + s) % 3 < 3
third_less c s = omega arith

colour_moves : (c s : ℕ) → 0 < s → s < 3 → c < 3 → (c + s) % 3 ≢ c
colour_moves c s a b l e = omega arith

pub data Near (c s : ℕ) : Label → Type 0 where
  near_out : Near c s (out ((c + s) % 3))
  near_into : Near c s (into ((c + 2 * s) % 3))

pub data Far (c s : ℕ) : Label → Type 0 where
  far_into : Far c s (into c)
  far_out : Far c s (out ((c + s) % 3))

-- edge j = 3u + c runs from u to v, and w is the third corner on that hand
module _ (h : Hand) (n : ℕ) (fronts : Hand → ℕ → ℕ) (s u v w c byte : ℕ) (is : step_of h ≡ s) (s1 : 0 < s) (s2 : s < 3) (kc : c < 3) (few : byte ≤ most_service) where
  beside : beside_source h (3 * u + c) ≡ 3 * u + (c + s) % 3
  beside = rw is (omega arith)

  set_case : bit_of h byte ≡ cond (eqb (source (3 * u + (c + s) % 3)) u) 1 0 → is_edge n (3 * u + (c + s) % 3) ≡ true
      → inner_back h n fronts byte (3 * u + c) ≡ 0 ∷ (3 * u + (c + s) % 3) ∷ []
  set_case bit e =
      when_set h n fronts byte (3 * u + c) few (bit ∙ rw (eq-eqb ((3 * u + (c + s) % 3) / 3) u (omega arith))) ∙
      (ap (edge_answer n) beside ∙ answers h n fronts (3 * u + (c + s) % 3) e)

  module _ (apart : u ≢ w) (bit : bit_of h byte ≡ cond (eqb (source (3 * w + (c + 2 * s) % 3)) u) 1 0)
      (e : is_edge n (3 * w + (c + 2 * s) % 3) ≡ true) where
    clear : bit_of h byte ≡ 0
    clear = bit ∙ rw (ne_eqb ((3 * w + (c + 2 * s) % 3) / 3) u (λ q. apart (omega arith)))

    same_case : fronts h (3 * u + c) ≡ 3 * w + c → is_edge n (3 * w + c) ≡ true
        → inner_back h n fronts byte (3 * u + c) ≡ 0 ∷ (3 * w + (c + 2 * s) % 3) ∷ []
    same_case f g =
        when_clear h n fronts byte (3 * u + c) few clear (rw f g) ∙
        (ap (back_by_front h n fronts (3 * u + c)) f ∙
        (same_colour h n fronts (3 * u + c) (3 * w + c) (omega arith) ∙
        (ap (edge_answer n) (rw is (omega arith)) ∙ answers h n fronts (3 * w + (c + 2 * s) % 3) e)))

    next_case : fronts h (3 * u + c) ≡ 3 * v + (c + s) % 3 → is_edge n (3 * v + (c + s) % 3) ≡ true
        → fronts h (3 * v + (c + s) % 3) ≡ 3 * w + (c + 2 * s) % 3
        → inner_back h n fronts byte (3 * u + c) ≡ 0 ∷ (3 * w + (c + 2 * s) % 3) ∷ []
    next_case f g r =
        when_clear h n fronts byte (3 * u + c) few clear (rw f g) ∙
        (ap (back_by_front h n fronts (3 * u + c)) f ∙
        (next_colour h n fronts (3 * u + c) (3 * v + (c + s) % 3)
        (λ q. colour_moves c s s1 s2 kc (sym (colour_of v ((c + s) % 3) (third_less c s)) ∙ q ∙ colour_of u c kc))
        (colour_of v ((c + s) % 3) (third_less c s) ∙ rw (is, colour_of u c kc)) ∙
        (ap (edge_answer n) r ∙ answers h n fronts (3 * w + (c + 2 * s) % 3) e)))

  pub back_reads : (a b : Label) → u ≢ w → Near c s a → Far c s b
      → bit_of h byte ≡ cond (eqb (source (edge_by u w a)) u) 1 0
      → fronts h (3 * u + c) ≡ edge_by v w b → is_edge n (edge_by v w b) ≡ true → is_edge n (edge_by u w a) ≡ true
      → (b ≡ out ((c + s) % 3) → fronts h (3 * v + (c + s) % 3) ≡ edge_by u w a)
      → inner_back h n fronts byte (3 * u + c) ≡ 0 ∷ edge_by u w a ∷ []
  back_reads a b apart near_out y bit f g e r = set_case bit e
  back_reads a b apart near_into far_into bit f g e r = same_case apart bit e f g
  back_reads a b apart near_into far_out bit f g e r = next_case apart bit e f g (r refl)

-- The local law gives both.

after_out : (c : ℕ) (l : Label) → Step (out c) l → Near c 1 l
after_out c (out d) e = rw e near_out
after_out c (into d) e = rw e near_into
after_out c bare e = absurd e

before_out : (c : ℕ) (l : Label) → ((d : ℕ) → l ≡ out d → d < 3) → ((d : ℕ) → l ≡ into d → d < 3) → Step l (out c) → Near c 2 l
before_out c (out d) h k e = let g = h d refl in let q : d ≡ (c + 2) % 3 = omega arith in rw q near_out
before_out c (into d) h k e = let g = k d refl in let q : d ≡ (c + 4) % 3 = omega arith in rw q near_into
before_out c bare h k e = absurd e

after_into : (c : ℕ) (l : Label) → Step (into c) l → Far c 2 l
after_into c (out d) e = rw e far_out
after_into c (into d) e = rw e far_into
after_into c bare e = absurd e

before_into : (c : ℕ) (l : Label) → ((d : ℕ) → l ≡ out d → d < 3) → Step l (into c) → Far c 1 l
before_into c (out d) h e = let g = h d refl in let q : d ≡ (c + 1) % 3 = omega arith in rw q far_out
before_into c (into d) h e = rw (sym e) far_into
before_into c bare h e = absurd e

-- Over a coloured surface whose array holds the Fronts: the reading is the edge beside p round its source.
module _ (R : Rotation) (W : Coloured R) (n : ℕ) (fronts : Hand → ℕ → ℕ) (is_edge_holds : (p : ℕ) → p < R.size → is_edge n (edge R W p) ≡ true) where
  open R use {size, next, twin, from, next_in, next_3, twin_in, twin_2, from_twin, differ}
  open W use {label, outer, colour_in, flip, outer_next, local}

  into_in : (p d : ℕ) → p < size → label p ≡ into d → d < 3
  into_in p d l e = colour_in (twin p) d (twin_in p l) (flip p l ∙ ap swap e)

  pub left_back : ((p c : ℕ) → p < size → label p ≡ out c → fronts left (3 * from p + c) ≡ edge R W (next p))
      → (p c byte : ℕ) → p < size → outer p ≡ false → label p ≡ out c → byte ≤ most_service
      → bit_of left byte ≡ cond (eqb (source (edge R W (turn R p))) (from p)) 1 0
      → inner_back left n fronts byte (3 * from p + c) ≡ 0 ∷ edge R W (turn R p) ∷ []
  left_back lf p c byte l o e few bit =
      let l1 = next_in p l in
      let l2 = next_in (next p) l1 in
      let w : from (next (turn R p)) ≡ from (next (next p)) = to_twin R (next (next p)) l2 in
      let ew : edge R W (turn R p) ≡ edge_by (from p) (from (next (next p))) (label (turn R p)) = rw (turn_from R p l, w) in
      let ap' : from (next (next p)) ≢ from p = rw (next_3 p l) at (differ (next (next p)) l2) in
      rw ew
      (back_reads left n fronts 1 (from p) (from (next p)) (from (next (next p))) c byte refl (omega arith) (omega arith) (colour_in p c l e) few
      (label (turn R p)) (label (next p)) (λ q. ap' (sym q))
      (after_out c (label (turn R p)) (rw e at (local p l o)))
      (before_into c (label (next p)) (λ d q. colour_in (next p) d l1 q) (rw (turn_next R p l, flip p l, e) at (local (next p) l1 (outer_next p l ∙ o))))
      (rw ew at bit) (lf p c l e) (is_edge_holds (next p) l1) (rw ew at (is_edge_holds (turn R p) (turn_in R p l)))
      (λ m. lf (next p) ((c + 1) % 3) l1 m ∙ sym (edge_twin R W (next (next p)) l2) ∙ ew))

  -- the triangle right of p is that of its twin
  pub right_back : ((p c : ℕ) → p < size → label p ≡ out c → fronts right (3 * from p + c) ≡ edge R W (turn R (twin p)))
      → (p c byte : ℕ) → p < size → outer (twin p) ≡ false → label p ≡ out c → byte ≤ most_service
      → bit_of right byte ≡ cond (eqb (source (edge R W (turn_back R p))) (from p)) 1 0
      → inner_back right n fronts byte (3 * from p + c) ≡ 0 ∷ edge R W (turn_back R p) ∷ []
  right_back rf p c byte l o e few bit =
      let lt = twin_in p l in
      let l1 = next_in (twin p) lt in
      let l2 = next_in (next (twin p)) l1 in
      let lr = turn_in R (twin p) lt in
      let z : from (next (turn R (twin p))) ≡ from (next (next (twin p))) = to_twin R (next (next (twin p))) l2 in
      let ew : edge R W (turn_back R p) ≡ edge_by (from p) (from (next (next (twin p)))) (label (turn_back R p)) = rw (turn_back_from R p l) in
      let ev : edge R W (turn R (twin p)) ≡ edge_by (from (next p)) (from (next (next (twin p)))) (label (turn R (twin p))) =
      rw (turn_from R (twin p) lt, z, from_twin p l) in
      let ap' : from (next (twin p)) ≢ from (next (next (twin p))) = differ (next (twin p)) l1 in
      let sp : turn R (turn_back R p) ≡ p = turn_turn_back R p l in
      rw ew
      (back_reads right n fronts 2 (from p) (from (next p)) (from (next (next (twin p)))) c byte refl (omega arith) (omega arith) (colour_in p c l e) few
      (label (turn_back R p)) (label (turn R (twin p))) (rw (turn_back_from R p l) at ap')
      (before_out c (label (turn_back R p)) (λ d q. colour_in (turn_back R p) d l1 q) (λ d q. into_in (turn_back R p) d l1 q)
      (rw (sp, e) at (local (turn_back R p) l1 (outer_next (twin p) lt ∙ o))))
      (after_into c (label (turn R (twin p))) (rw (flip p l, e) at (local (twin p) lt o)))
      (rw ew at bit) (rf p c l e ∙ ev) (rw ev at (is_edge_holds (turn R (twin p)) lr)) (rw ew at (is_edge_holds (turn_back R p) l1))
      (λ m. ap (λ x. fronts right (3 * x + (c + 2) % 3)) (sym (turn_from R (twin p) lt ∙ from_twin p l)) ∙ rf (turn R (twin p)) ((c + 2) % 3) lr m ∙
      ap (λ x. edge R W (turn R x)) (twin_2 (next (next (twin p))) l2) ∙ ap (λ x. edge R W (twin (next x))) (next_3 (twin p) lt) ∙ edge_twin R W (turn_back R p) l1 ∙ ew))
