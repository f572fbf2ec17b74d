-- Sides, triangles and turns as the mesh says them, over a table whose sides come in pairs: a side is there exactly when the search
-- finds it, the triangle on a side is the one of its third corner, and so a turn round a vertex is the iteration of `third`.
use Prim.Native.Nat.{ℕ, zero, suc, ◌<◌}
use mathlib.Core.Path.{◌≡◌, sym, ap, ◌∙◌, subst}
use mathlib.Core.List.{List}
use mathlib.Core.Logic.{◌≢◌}
use native.Mathlib.Omega.{arith}
use lib.ListN.{length}
use Rattle.mesh.specs.Search.{iterate}
use Rattle.mesh.specs.Sides.{from, to, side_at, third, turn_length}
use Rattle.mesh.specs.Mesh.{Triangle, Side, Round, here, onward}
use Rattle.mesh.proofs.Iterate.{iterate_zero, iterate_step, iterate_suc}
use Rattle.mesh.proofs.Positions.{side_at_law, side_at_le}
use Rattle.mesh.specs.Paired.{Paired, twin, turn}
use Rattle.mesh.proofs.Paired.{twin_from, twin_to, to_in, simple, third_is, turn_in, turn_from, turn_to, turns_in, turns_from, turns_to}
use Rattle.mesh.proofs.Round.{turn_steps, turn_closes, turn_once}

-- a side is there exactly when it is found
pub side_found : (ts : List ℕ) (a b : ℕ) → Side ts a b → side_at ts a b < length ts
side_found ts a b s = omega (arith, s.within, side_at_le ts a b s.position s.within s.starts s.ends)

pub found_side : (ts : List ℕ) (a b : ℕ) → side_at ts a b < length ts → Side ts a b
found_side ts a b l =
    let h = side_at_law ts a b l in
    record { position = side_at ts a b; within = l; starts = h.0; ends = h.1 }

module _ (n : ℕ) (ts : List ℕ) (P : Paired n ts) where
  pub starts_below : (a b : ℕ) → Side ts a b → a < n
  starts_below a b s = subst (λ x. x < n) s.starts (P.corner s.position s.within)

  pub ends_below : (a b : ℕ) → Side ts a b → b < n
  ends_below a b s = subst (λ x. x < n) s.ends (to_in n ts P s.position s.within)

  pub reversed : (a b : ℕ) → Side ts a b → Side ts b a
  reversed a b s =
      let p : ℕ = s.position in
      record {
        position = twin ts p;
        within = P.twin_in p s.within;
        starts = twin_from n ts P p s.within ∙ s.ends;
        ends = twin_to n ts P p s.within ∙ s.starts;
      }

  -- a triangle is the one of its third corner
  pub triangle_third : (a b c : ℕ) → Triangle ts a b c → third ts a b ≡ c
  triangle_third a b c t = third_is n ts P a b t.position t.within t.first_is t.second_is ∙ t.third_is

  pub side_triangle : (a b : ℕ) → Side ts a b → Triangle ts a b (third ts a b)
  side_triangle a b s =
      record {
        position = s.position;
        within = s.within;
        first_is = s.starts;
        second_is = s.ends;
        third_is = sym (third_is n ts P a b s.position s.within s.starts s.ends);
      }

  -- round v the neighbour after x is a neighbour too
  pub side_on_holds : (v x : ℕ) → Side ts v x → Side ts v (third ts v x)
  side_on_holds v x s =
      let p : ℕ = s.position in
      record {
        position = turn ts p;
        within = turn_in n ts P p s.within;
        starts = turn_from n ts P p s.within ∙ s.starts;
        ends = turn_to n ts P p s.within ∙ sym (third_is n ts P v x p s.within s.starts s.ends);
      }

  pub sides_on : (v : ℕ) (k x : ℕ) → Side ts v x → Side ts v (iterate (third ts v) k x)
  sides_on v zero x s = subst (Side ts v) (sym (iterate_zero (third ts v) x)) s
  sides_on v (suc k) x s =
      subst (Side ts v) (sym (iterate_step (third ts v) k x)) (side_on_holds v (iterate (third ts v) k x) (sides_on v k x s))

  -- the steps of a turn are the iterates, both ways
  pub round_of : (v : ℕ) (k x : ℕ) → Side ts v x → Round ts v x (iterate (third ts v) k x)
  round_of v zero x s = subst (Round ts v x) (sym (iterate_zero (third ts v) x)) here
  round_of v (suc k) x s =
      subst (Round ts v x) (sym (iterate_suc (third ts v) k x)) (onward (side_triangle v x s) (round_of v k (third ts v x) (side_on_holds v x s)))

  pub of_round : (v : ℕ) {x y : ℕ} → Round ts v x y → (k : ℕ) × (iterate (third ts v) k x ≡ y)
  of_round v {x} here = (0, iterate_zero (third ts v) x)
  of_round v {x} (onward {y = z} t r) =
      let h = of_round v r in
      (suc h.0, iterate_suc (third ts v) h.0 x ∙ ap (iterate (third ts v) h.0) (triangle_third v x z t) ∙ h.1)

  -- going round by neighbours and by positions
  pub steps_to : (v a : ℕ) (s : Side ts v a) (k : ℕ) → to ts (iterate (turn ts) k s.position) ≡ iterate (third ts v) k a
  steps_to v a s k =
      turns_to n ts P k s.position s.within ∙ ap (λ z. iterate (third ts z) k (to ts s.position)) s.starts ∙ ap (iterate (third ts v) k) s.ends

  -- what one turn from a is: it closes after `turn_length` steps, and meets no neighbour twice on the way
  pub record Turn (v a d : ℕ) : Type 0 where
    pub some_steps : 0 < d
    pub closes : iterate (third ts v) d a ≡ a
    pub apart : (i j : ℕ) → i < j → j < d → iterate (third ts v) i a ≢ iterate (third ts v) j a

  pub turn_length_holds : (v a : ℕ) → Side ts v a → Turn v a (turn_length n (third ts) v a)
  turn_length_holds v a s =
      let p : ℕ = s.position in
      let l = s.within in
      let steps = steps_to v a s in
      let d : ℕ = turn_length n (third ts) (from ts p) (to ts p) in
      let same : d ≡ turn_length n (third ts) v a =
      ap (λ z. turn_length n (third ts) z (to ts p)) s.starts ∙ ap (turn_length n (third ts) v) s.ends in
      subst (Turn v a) same
      (record {
        some_steps = (let e = turn_steps n ts P p l in omega arith);
        closes = sym (steps d) ∙ ap (to ts) (turn_closes n ts P p l) ∙ s.ends;
        apart = λ i j g h e.
            turn_once n ts P p i j l g h
            (simple n ts P (iterate (turn ts) i p) (iterate (turn ts) j p) (turns_in n ts P i p l) (turns_in n ts P j p l)
            (turns_from n ts P i p l ∙ sym (turns_from n ts P j p l)) (steps i ∙ e ∙ sym (steps j)));
      })
