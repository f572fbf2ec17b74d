-- One turn round a vertex. From any side at v the turn comes back after `turn_length` steps, by positions and by neighbours alike,
-- and not before; and where number 8 does not apply it meets every side at v on the way.
use Prim.Native.Nat.{ℕ, zero, suc, ◌+◌, ◌-◌, ◌≤◌, ◌<◌}
use mathlib.Core.Path.{◌≡◌, refl, sym, ap, ◌∙◌}
use mathlib.Core.List.{List}
use mathlib.Core.Bool.{Bool, true, false, not, ◌&&◌}
use mathlib.Core.Logic.{◌≢◌}
use native.Mathlib.Omega.{arith}
use lib.ListN.{length}
use lib.Dec.{ltb, eqb}
use borrow.Author.Tests.{ltb-true, ltb-false, eqb-true, eqb-false, eq-eqb, ne_eqb, not-false}
use Rattle.mesh.specs.Search.{first, some, iterate}
use Rattle.mesh.specs.Limits.{unused_mark}
use Rattle.mesh.specs.Sides.{from, to, side_at, third, is_neighbour, first_neighbour, meets, turn_length}
use Rattle.mesh.specs.Verdict.{turn_fault}
use Rattle.mesh.proofs.Tests.{by_bool, clash, and_of, or_false}
use Rattle.mesh.proofs.Search.{first_law, first_at, some_at, some_none, some_is}
use Rattle.mesh.proofs.Count.{pigeon, count_all}
use Rattle.mesh.proofs.Iterate.{iterate_add, least, period, come_back}
use Rattle.mesh.proofs.Positions.{side_at_law}
use Rattle.mesh.specs.Paired.{turn, Paired}
use Rattle.mesh.proofs.Paired.{turn_in, turn_inj, turns_in, turns_from, turns_to, simple, to_in, neighbour_side, side_neighbour, side_is}

module _ (n : ℕ) (ts : List ℕ) (P : Paired n ts) where
  -- steps that end at one side began at one
  turns_inj : (k p q : ℕ) → p < length ts → q < length ts → iterate (turn ts) k p ≡ iterate (turn ts) k q → p ≡ q
  unfolding iterate
  turns_inj zero p q l g e = e
  turns_inj (suc k) p q l g e =
      turns_inj k p q l g (turn_inj n ts P (iterate (turn ts) k p) (iterate (turn ts) k q) (turns_in n ts P k p l) (turns_in n ts P k q g) e)

  -- the least number of steps, less one, after which the turn is back
  abbrev steps : ℕ → ℕ
  steps p = first (λ i. eqb (iterate (turn ts) (suc i) p) p) (length ts)

  back_by_positions : (p : ℕ) → p < length ts → iterate (turn ts) (suc (steps p)) p ≡ p
  back_by_positions p l = period (turn ts) (length ts) p l (turn_in n ts P) (turn_inj n ts P)

  not_before : (p k : ℕ) → k < steps p → iterate (turn ts) (suc k) p ≢ p
  not_before p k g = eqb-false (iterate (turn ts) (suc k) p) p ((first_law (λ i. eqb (iterate (turn ts) (suc i) p) p) (length ts)).low k g)

  -- on the way no side is met twice, so no neighbour is
  sides_differ : (p i j : ℕ) → p < length ts → i < j → j < suc (steps p) → iterate (turn ts) i p ≢ iterate (turn ts) j p
  sides_differ p i j l g h e =
      let d : ℕ = j - suc i in
      let s : i + suc d ≡ j = omega arith in
      not_before p d (omega arith)
      (sym (turns_inj i p (iterate (turn ts) (suc d) p) l (turns_in n ts P (suc d) p l)
      (e ∙ ap (λ x. iterate (turn ts) x p) (sym s) ∙ iterate_add (turn ts) i (suc d) p)))

  same_side : (p i j : ℕ) → p < length ts → to ts (iterate (turn ts) i p) ≡ to ts (iterate (turn ts) j p) → iterate (turn ts) i p ≡ iterate (turn ts) j p
  same_side p i j l e =
      simple n ts P (iterate (turn ts) i p) (iterate (turn ts) j p) (turns_in n ts P i p l) (turns_in n ts P j p l)
      (turns_from n ts P i p l ∙ sym (turns_from n ts P j p l)) e

  steps_below : (p : ℕ) → p < length ts → steps p < n
  steps_below p l =
      let a =
      pigeon (suc (steps p)) n (λ i. to ts (iterate (turn ts) i p)) (λ x. true)
      (λ i _. to_in n ts P (iterate (turn ts) i p) (turns_in n ts P i p l)) (λ i _. refl)
      (λ i j g h e. sides_differ p i j l g h (same_side p i j l e)) in
      let b = count_all n in
      omega arith

  -- the turn by neighbours takes as many steps
  pub turn_steps : (p : ℕ) → p < length ts → turn_length n (third ts) (from ts p) (to ts p) ≡ suc (steps p)
  unfolding turn_length
  turn_steps p l =
      let t : ℕ → Bool = (λ i. eqb (iterate (third ts (from ts p)) (1 + i) (to ts p)) (to ts p)) in
      let by_to : (k : ℕ) → iterate (third ts (from ts p)) (1 + k) (to ts p) ≡ to ts (iterate (turn ts) (suc k) p) =
      (λ k. let s : 1 + k ≡ suc k = omega arith in ap (λ x. iterate (third ts (from ts p)) x (to ts p)) s ∙ sym (turns_to n ts P (suc k) p l)) in
      let r : first t n ≡ steps p =
      first_at t n (steps p) (steps_below p l)
      (eq-eqb (iterate (third ts (from ts p)) (1 + steps p) (to ts p)) (to ts p) (by_to (steps p) ∙ ap (to ts) (back_by_positions p l)))
      (λ k g. ne_eqb (iterate (third ts (from ts p)) (1 + k) (to ts p)) (to ts p)
      (λ e. not_before p k g
      (simple n ts P (iterate (turn ts) (suc k) p) p (turns_in n ts P (suc k) p l) l (turns_from n ts P (suc k) p l) (sym (by_to k) ∙ e)))) in
      rw r (omega arith)

  pub turn_short : (p : ℕ) → p < length ts → turn_length n (third ts) (from ts p) (to ts p) ≤ n
  turn_short p l = let a = turn_steps p l in let b = steps_below p l in omega arith

  pub turn_closes : (p : ℕ) → p < length ts → iterate (turn ts) (turn_length n (third ts) (from ts p) (to ts p)) p ≡ p
  turn_closes p l = ap (λ x. iterate (turn ts) x p) (turn_steps p l) ∙ back_by_positions p l

  -- within one turn no side is met twice
  pub turn_once : (p i j : ℕ) → p < length ts → i < j → j < turn_length n (third ts) (from ts p) (to ts p) → iterate (turn ts) i p ≢ iterate (turn ts) j p
  turn_once p i j l g h = sides_differ p i j l g (let a = turn_steps p l in omega arith)

  -- Where a turn meets all.
  module _ (few : n ≤ unused_mark) (no8 : some (turn_fault n (third ts)) n ≡ false) where
    -- each vertex is in a triangle
    pub in_triangle : (v : ℕ) → v < n → first_neighbour n (third ts) v < n
    unfolding turn_fault first_neighbour
    in_triangle v l =
        let t = or_false (not (some (is_neighbour n (third ts) v) n)) _ (some_none (turn_fault n (third ts)) n no8 v l) in
        ltb-true (first (is_neighbour n (third ts) v) n) n (sym (some_is (is_neighbour n (third ts) v) n) ∙ not-false (some (is_neighbour n (third ts) v) n) t.0)

    start : ℕ → ℕ
    start v = side_at ts v (first_neighbour n (third ts) v)

    start_in : (v : ℕ) → v < n → start v < length ts
    unfolding start first_neighbour
    start_in v l = neighbour_side n ts P few v (first_neighbour n (third ts) v) ((first_law (is_neighbour n (third ts) v) n).hit (in_triangle v l))

    from_start : (q : ℕ) → q < length ts → (k : ℕ) × (iterate (turn ts) k (start (from ts q)) ≡ q)
    unfolding turn_fault meets start
    from_start q l =
        let v : ℕ = from ts q in
        let lv : v < n = P.corner q l in
        let s = side_at_law ts v (first_neighbour n (third ts) v) (start_in v lv) in
        let t = or_false (not (some (is_neighbour n (third ts) v) n)) _ (some_none (turn_fault n (third ts)) n no8 v lv) in
        let h : is_neighbour n (third ts) v (to ts q) ≡ true = side_neighbour n ts P v (to ts q) (rw (side_is n ts P v (to ts q) q l refl refl) l) in
        let m : meets n (third ts) v (to ts q) ≡ true =
        by_bool (meets n (third ts) v (to ts q)) (λ e. e)
        (λ e. clash (is_neighbour n (third ts) v (to ts q) && not (meets n (third ts) v (to ts q)))
        (and_of (is_neighbour n (third ts) v (to ts q)) (not (meets n (third ts) v (to ts q))) h (rw e))
        (some_none (λ b. is_neighbour n (third ts) v b && not (meets n (third ts) v b)) n t.1 (to ts q) (to_in n ts P q l))) in
        let k = some_at (λ k. eqb (iterate (third ts v) k (first_neighbour n (third ts) v)) (to ts q)) n m in
        let e : iterate (third ts v) k.0 (first_neighbour n (third ts) v) ≡ to ts q =
        eqb-true (iterate (third ts v) k.0 (first_neighbour n (third ts) v)) (to ts q) k.2 in
        let p : ℕ = start v in
        let lp = start_in v lv in (
          k.0,
          simple n ts P (iterate (turn ts) k.0 p) q (turns_in n ts P k.0 p lp) l (turns_from n ts P k.0 p lp ∙ s.0)
              (turns_to n ts P k.0 p lp ∙ ap (λ x. iterate (third ts x) k.0 (to ts p)) s.0 ∙ ap (iterate (third ts v) k.0) s.1 ∙ e),
        )

    pub turn_meets : (p q : ℕ) → p < length ts → q < length ts → from ts p ≡ from ts q → (k : ℕ) × (iterate (turn ts) k p ≡ q)
    turn_meets p q l g e =
        let a = from_start p l in
        let b = from_start q g in
        let c = come_back (turn ts) (length ts) (turn_in n ts P) (turn_inj n ts P) a.0 (start (from ts p)) (start_in (from ts p) (P.corner p l)) in (
          b.0 + c.0,
          iterate_add (turn ts) b.0 c.0 p ∙ ap (λ x. iterate (turn ts) b.0 (iterate (turn ts) c.0 x)) (sym a.1) ∙
              ap (iterate (turn ts) b.0) c.1 ∙ ap (λ v. iterate (turn ts) b.0 (start v)) e ∙ b.1,
        )

    -- and within one turn
    pub turn_meets_once : (p q : ℕ) → p < length ts → q < length ts → from ts p ≡ from ts q
        → (k : ℕ) × (k < turn_length n (third ts) (from ts p) (to ts p)) × (iterate (turn ts) k p ≡ q)
    turn_meets_once p q l g e =
        let t = turn_meets p q l g e in
        let m = least (turn ts) p q t.0 t.1 in
        let i : ℕ = m.0 in
        let d : ℕ = turn_length n (third ts) (from ts p) (to ts p) in
        let z : 0 < d = (let w = turn_steps p l in omega arith) in (
          i,
          by_bool (ltb i d) (λ u. ltb-true i d u)
              (λ u.
              let h : d ≤ i = ltb-false i d u in
              let s : i - d + d ≡ i = omega arith in
              absurd
              (m.2 (i - d) (omega arith)
              (ap (iterate (turn ts) (i - d)) (sym (turn_closes p l)) ∙ sym (iterate_add (turn ts) (i - d) d p) ∙ ap (λ x. iterate (turn ts) x p) s ∙ m.1))),
          m.1,
        )
