-- Numbers 2 to 8, each with the sentence that it is met for want of: the fault is absent exactly when the sentence holds. 7 needs that
-- sides occur once, 8 that they come in pairs: a turn that meets all is then a turn from any neighbour to any other.
use Prim.Native.Nat.{ℕ, ◌*◌, ◌≤◌, ◌<◌}
use mathlib.Core.Path.{◌≡◌, refl, sym, ap, ap₂, ◌∙◌, subst}
use mathlib.Core.List.{List}
use mathlib.Core.Bool.{true, false, not, ◌&&◌}
use mathlib.Core.Logic.{◌↔◌}
use native.Mathlib.Omega.{arith}
use lib.ListN.{length}
use lib.Dec.{ltb, eqb}
use borrow.Author.Tests.{ltb-true, ltb-false, leb-false, eqb-true, eqb-false, lt-ltb, le-ltb, lt-leb, eq-eqb, ne_eqb, not-false}
use Rattle.mesh.specs.Search.{first, some, iterate}
use Rattle.mesh.specs.Limits.{unused_mark, triangles_length, wood_length}
use Rattle.mesh.specs.Sides.{from, to, side_at, third, is_neighbour, first_neighbour, meets}
use Rattle.mesh.specs.Paired.{Paired}
use Rattle.mesh.specs.Verdict.{wrong_lengths, corner_fault, equal_fault, repeat_fault, reverse_fault, outer_fault, turn_fault}
use Rattle.mesh.specs.Mesh.{Side, Round, CornersBelow, CornersDiffer, SidesOnce, SidesReversed, OuterTriangle, InTriangles, OneTurn}
use Rattle.mesh.proofs.Tests.{by_bool, and_true, and_false_left, and_false_right, or_none}
use Rattle.mesh.proofs.Search.{first_law, some_of, some_none, none_some, some_is}
use Rattle.mesh.proofs.Iterate.{short_of}
use Rattle.mesh.proofs.Positions.{side_at_law, side_at_le, side_at_only, third_at, third_none}
use Rattle.mesh.proofs.Paired.{paired, neighbour_side, side_neighbour}
use Rattle.mesh.proofs.Round as round
use Rattle.theorems.proofs.Acceptance.Corners.{side_found, found_side, ends_below, sides_on, round_of, of_round, steps_to}

-- 2: the lengths
pub tied_2 : (n : ℕ) (ts ws : List ℕ) → (wrong_lengths n ts ws ≡ false) ↔ ((length ts ≡ triangles_length n) × (length ws ≡ wood_length n))
unfolding wrong_lengths
tied_2 n ts ws = (
  λ e.
      let t = and_true (eqb (length ts) (triangles_length n)) (eqb (length ws) (wood_length n)) (not-false _ e) in
      (eqb-true (length ts) (triangles_length n) t.0, eqb-true (length ws) (wood_length n) t.1),
  λ h. rw (eq-eqb (length ts) (triangles_length n) h.0, eq-eqb (length ws) (wood_length n) h.1),
)

-- 3, 4: three different corners below n
pub tied_3 : (n : ℕ) (ts : List ℕ) → (some (corner_fault n ts) (length ts) ≡ false) ↔ CornersBelow n ts
tied_3 n ts = (
  λ e p l. leb-false n (from ts p) (some_none (corner_fault n ts) (length ts) e p l),
  λ h. none_some (corner_fault n ts) (length ts) (λ p l. lt-leb n (from ts p) (h p l)),
)

pub tied_4 : (ts : List ℕ) → (some (equal_fault ts) (length ts) ≡ false) ↔ CornersDiffer ts
tied_4 ts = (
  λ e p l. eqb-false (from ts p) (to ts p) (some_none (equal_fault ts) (length ts) e p l),
  λ h. none_some (equal_fault ts) (length ts) (λ p l. ne_eqb (from ts p) (to ts p) (h p l)),
)

-- 5: each directed side once, so the search finds it where it stands
pub tied_5 : (ts : List ℕ) → (some (repeat_fault ts) (length ts) ≡ false) ↔ SidesOnce ts
tied_5 ts = (
  λ e p q l g a b. sym (found e p l) ∙ ap₂ (side_at ts) a b ∙ found e q g,
  λ h. none_some (repeat_fault ts) (length ts)
      (λ p l. le-ltb (side_at ts (from ts p) (to ts p)) p (omega (arith, side_at_only ts (from ts p) (to ts p) p l refl refl h))),
)
  where
    found : some (repeat_fault ts) (length ts) ≡ false → (p : ℕ) → p < length ts → side_at ts (from ts p) (to ts p) ≡ p
    found e p l =
        let a = ltb-false (side_at ts (from ts p) (to ts p)) p (some_none (repeat_fault ts) (length ts) e p l) in
        let b = side_at_le ts (from ts p) (to ts p) p l refl refl in
        omega arith

-- 6: and its reverse
pub tied_6 : (ts : List ℕ) → (some (reverse_fault ts) (length ts) ≡ false) ↔ SidesReversed ts
tied_6 ts = (
  λ e a b s.
      found_side ts b a
      (rw (s.starts, s.ends) at (leb-false (length ts) _ (some_none (reverse_fault ts) (length ts) e s.position s.within))),
  λ h. none_some (reverse_fault ts) (length ts)
      (λ p l. lt-leb (length ts) _ (side_found ts (to ts p) (from ts p) (h (from ts p) (to ts p) (record { position = p; within = l; starts = refl; ends = refl })))),
)

-- 3 to 6 together: sides come in pairs
pub sides_paired : (n : ℕ) (ts : List ℕ) (m : ℕ) → length ts ≡ 3 * m → CornersBelow n ts → CornersDiffer ts → SidesOnce ts → SidesReversed ts → Paired n ts
sides_paired n ts m e c d o r = paired n m ts e ((tied_3 n ts).1 c) ((tied_4 ts).1 d) ((tied_5 ts).1 o) ((tied_6 ts).1 r)

-- 7: the outer triangle; where sides occur once the search finds the one of its triangle
pub tied_7 : (ts : List ℕ) → SidesOnce ts → (outer_fault (third ts) ≡ false) ↔ OuterTriangle ts
unfolding outer_fault
tied_7 ts once = (
  λ e. there (eqb-true (third ts 0 2) 1 (not-false (eqb (third ts 0 2) 1) e)),
  λ t. rw (eq-eqb (third ts 0 2) 1 (third_at ts 0 2 t.position (side_at_only ts 0 2 t.position t.within t.first_is t.second_is once) t.within ∙ t.third_is)),
)
  where
    there : third ts 0 2 ≡ 1 → OuterTriangle ts
    there e =
        by_bool (ltb (side_at ts 0 2) (length ts))
        (λ u.
        let l = ltb-true (side_at ts 0 2) (length ts) u in
        let h = side_at_law ts 0 2 l in
        record { position = side_at ts 0 2; within = l; first_is = h.0; second_is = h.1; third_is = sym (third_at ts 0 2 (side_at ts 0 2) refl l) ∙ e })
        (λ u. absurd (let z = third_none ts 0 2 (ltb-false (side_at ts 0 2) (length ts) u) in omega arith))

-- neighbours by the test and by the sentence
module _ (n : ℕ) (ts : List ℕ) (P : Paired n ts) (few : n ≤ unused_mark) where
  pub neighbour_of : (v b : ℕ) → is_neighbour n (third ts) v b ≡ true → Side ts v b
  neighbour_of v b t = found_side ts v b (neighbour_side n ts P few v b t)

  pub of_neighbour : (v b : ℕ) → Side ts v b → is_neighbour n (third ts) v b ≡ true
  of_neighbour v b s = side_neighbour n ts P v b (side_found ts v b s)

  -- 8: each vertex in a triangle, and one turn
  first_is : (v : ℕ) → some (is_neighbour n (third ts) v) n ≡ true → Side ts v (first_neighbour n (third ts) v)
  unfolding first_neighbour
  first_is v t =
      neighbour_of v (first (is_neighbour n (third ts) v) n)
      ((first_law (is_neighbour n (third ts) v) n).hit (ltb-true (first (is_neighbour n (third ts) v) n) n (sym (some_is (is_neighbour n (third ts) v) n) ∙ t)))

  module _ (no8 : some (turn_fault n (third ts)) n ≡ false) where
    in_triangle : (v : ℕ) → v < n → Side ts v (first_neighbour n (third ts) v)
    unfolding first_neighbour
    in_triangle v l = first_is v (some_is (is_neighbour n (third ts) v) n ∙ lt-ltb (first (is_neighbour n (third ts) v) n) n (round.in_triangle n ts P few no8 v l))

    one_turn : (v a b : ℕ) → Side ts v a → Side ts v b → Round ts v a b
    one_turn v a b s t =
        let m = round.turn_meets n ts P few no8 s.position t.position s.within t.within (s.starts ∙ sym t.starts) in
        subst (Round ts v a) (sym (steps_to n ts P v a s m.0) ∙ ap (to ts) m.1 ∙ t.ends) (round_of n ts P v m.0 a s)

  turns_right : InTriangles n ts → OneTurn ts → some (turn_fault n (third ts)) n ≡ false
  unfolding turn_fault meets
  turns_right in_one round =
      none_some (turn_fault n (third ts)) n
      (λ v l.
      let w = in_one v l in
      let h : some (is_neighbour n (third ts) v) n ≡ true =
      some_of (is_neighbour n (third ts) v) n w.0 (ends_below n ts P v w.0 w.1) (of_neighbour v w.0 w.1) in
      or_none (not (some (is_neighbour n (third ts) v) n)) (some (λ b. is_neighbour n (third ts) v b && not (meets n (third ts) v b)) n)
      (rw h)
      (none_some (λ b. is_neighbour n (third ts) v b && not (meets n (third ts) v b)) n
      (λ b lb. by_bool (is_neighbour n (third ts) v b)
      (λ t. and_false_right (is_neighbour n (third ts) v b) (not (meets n (third ts) v b)) (rw (met v b h (neighbour_of v b t))))
      (λ t. and_false_left (is_neighbour n (third ts) v b) (not (meets n (third ts) v b)) t))))
    where
      met : (v b : ℕ) → some (is_neighbour n (third ts) v) n ≡ true → Side ts v b → meets n (third ts) v b ≡ true
      met v b h s =
          let f : ℕ → ℕ = third ts v in
          let z : ℕ = first_neighbour n (third ts) v in
          let sz = first_is v h in
          let k = of_round n ts P v (round v z b sz s) in
          let m = short_of f n z b k.0 (λ i. ends_below n ts P v (iterate f i z) (sides_on n ts P v i z sz)) k.1 in
          some_of (λ k. eqb (iterate f k z) b) n m.0 m.1 (eq-eqb (iterate f m.0 z) b m.2)

  pub tied_8 : (some (turn_fault n (third ts)) n ≡ false) ↔ (InTriangles n ts × OneTurn ts)
  tied_8 = (λ e. (λ v l. (first_neighbour n (third ts) v, in_triangle e v l), one_turn e), λ h. turns_right h.0 h.1)
