-- A surface made of triangles as a rotation system on positions: the next side of a triangle, the reverse of a side (its twin),
-- the vertex that a side leaves, and the triangle that it lies in. `meets_all` says that a turn round a vertex meets all its sides.
-- Everything about accepted meshes above this file is proved over this record and looks at no table.
use Prim.Native.Nat.{ℕ, zero, suc, ◌≤◌, ◌<◌}
use mathlib.Core.Path.{◌≡◌, refl, sym, ap, ◌∙◌, subst}
use mathlib.Core.Logic.{◌≢◌, ◌⊎◌}
use lib.Dec.{eqb}
use borrow.Author.Tests.{eq-eqb}
use Rattle.mesh.specs.Search.{count, iterate}
use Rattle.mesh.proofs.Count.{pigeon}
use Rattle.mesh.proofs.Iterate.{iterate_suc, least, least_apart}

pub record Rotation : Type 0 where
  pub size : ℕ
  pub next : ℕ → ℕ
  pub twin : ℕ → ℕ
  pub from : ℕ → ℕ
  pub face : ℕ → ℕ
  pub face_next : (p : ℕ) → p < size → face (next p) ≡ face p
  pub face_cases : (p q : ℕ) → p < size → q < size → face p ≡ face q → (q ≡ p) ⊎ ((q ≡ next p) ⊎ (q ≡ next (next p)))
  pub next_in : (p : ℕ) → p < size → next p < size
  pub next_3 : (p : ℕ) → p < size → next (next (next p)) ≡ p
  pub twin_in : (p : ℕ) → p < size → twin p < size
  pub twin_2 : (p : ℕ) → p < size → twin (twin p) ≡ p
  pub from_twin : (p : ℕ) → p < size → from (twin p) ≡ from (next p)
  pub differ : (p : ℕ) → p < size → from p ≢ from (next p)
  pub once : (p q : ℕ) → p < size → q < size → from p ≡ from q → from (next p) ≡ from (next q) → p ≡ q
  pub meets_all : (p q : ℕ) → p < size → q < size → from p ≡ from q → (k : ℕ) × (iterate (λ x. twin (next (next x))) k p ≡ q)

module _ (R : Rotation) where
  open R use {size, next, twin, from, next_in, next_3, twin_in, twin_2, from_twin, differ, once, meets_all}

  -- the next side round the vertex, and the one before
  abbrev pub turn : ℕ → ℕ
  turn p = twin (next (next p))

  abbrev pub turn_back : ℕ → ℕ
  turn_back p = next (twin p)

  pub turn_in : (p : ℕ) → p < size → turn p < size
  turn_in p l = twin_in (next (next p)) (next_in (next p) (next_in p l))

  pub turn_back_in : (p : ℕ) → p < size → turn_back p < size
  turn_back_in p l = next_in (twin p) (twin_in p l)

  pub turn_back_turn : (p : ℕ) → p < size → turn_back (turn p) ≡ p
  turn_back_turn p l = ap next (twin_2 (next (next p)) (next_in (next p) (next_in p l))) ∙ next_3 p l

  pub turn_turn_back : (p : ℕ) → p < size → turn (turn_back p) ≡ p
  turn_turn_back p l = ap twin (next_3 (twin p) (twin_in p l)) ∙ twin_2 p l

  pub turn_from : (p : ℕ) → p < size → from (turn p) ≡ from p
  turn_from p l = from_twin (next (next p)) (next_in (next p) (next_in p l)) ∙ ap from (next_3 p l)

  pub turn_back_from : (p : ℕ) → p < size → from (turn_back p) ≡ from p
  turn_back_from p l = sym (turn_from (turn_back p) (turn_back_in p l)) ∙ ap from (turn_turn_back p l)

  -- the triangle left of p, seen from its second corner: the side before twin p
  pub turn_next : (p : ℕ) → p < size → turn (next p) ≡ twin p
  turn_next p l = ap twin (next_3 p l)

  pub to_twin : (p : ℕ) → p < size → from (next (twin p)) ≡ from p
  to_twin p l = sym (from_twin (twin p) (twin_in p l)) ∙ ap from (twin_2 p l)

  pub turns_in : (k p : ℕ) → p < size → iterate turn k p < size
  unfolding iterate
  turns_in zero p l = l
  turns_in (suc k) p l = turn_in (iterate turn k p) (turns_in k p l)

  pub turns_back_in : (k p : ℕ) → p < size → iterate turn_back k p < size
  unfolding iterate
  turns_back_in zero p l = l
  turns_back_in (suc k) p l = turn_back_in (iterate turn_back k p) (turns_back_in k p l)

  pub turns_from : (k p : ℕ) → p < size → from (iterate turn k p) ≡ from p
  unfolding iterate
  turns_from zero p l = refl
  turns_from (suc k) p l = turn_from (iterate turn k p) (turns_in k p l) ∙ turns_from k p l

  pub turns_back_from : (k p : ℕ) → p < size → from (iterate turn_back k p) ≡ from p
  unfolding iterate
  turns_back_from zero p l = refl
  turns_back_from (suc k) p l = turn_back_from (iterate turn_back k p) (turns_back_in k p l) ∙ turns_back_from k p l

  pub turns_back_turns : (k p : ℕ) → p < size → iterate turn_back k (iterate turn k p) ≡ p
  unfolding iterate
  turns_back_turns zero p l = refl
  turns_back_turns (suc k) p l = iterate_suc turn_back k (turn (iterate turn k p)) ∙ ap (iterate turn_back k) (turn_back_turn (iterate turn k p) (turns_in k p l)) ∙ turns_back_turns k p l

  -- induction round a vertex
  pub round : (P : ℕ → Type 0) → ((q : ℕ) → q < size → P q → P (turn q)) → (p : ℕ) → p < size → P p → (q : ℕ) → q < size → from p ≡ from q → P q
  unfolding iterate
  round P s p l b q g e = let t = meets_all p q l g e in subst P t.1 (go t.0)
    where
      go : (k : ℕ) → P (iterate turn k p)
      go zero = b
      go (suc k) = s (iterate turn k p) (turns_in k p l) (go k)

  -- going backwards one meets any side at the vertex
  pub back : (p q : ℕ) → p < size → q < size → from p ≡ from q → (k : ℕ) × (iterate turn_back k p ≡ q)
  back p q l g e = let t = meets_all q p g l (sym e) in (t.0, ap (iterate turn_back t.0) (sym t.1) ∙ turns_back_turns t.0 q g)

-- the number of sides that leave v
unfoldable pub degree : Rotation → ℕ → ℕ
degree R v = count (λ p. eqb (R.from p) v) R.size

pub back_within : (R : Rotation) (p q : ℕ) → p < R.size → q < R.size → R.from p ≡ R.from q
    → (k : ℕ) × (iterate (turn_back R) k p ≡ q) × ((i : ℕ) → i < k → iterate (turn_back R) i p ≢ q) × (suc k ≤ degree R (R.from p))
unfolding degree
back_within R p q l g e =
    let b = back R p q l g e in
    let m = least (turn_back R) p q b.0 b.1 in (
      m.0,
      m.1,
      m.2,
      pigeon (suc m.0) R.size (λ i. iterate (turn_back R) i p) (λ x. eqb (R.from x) (R.from p))
          (λ i _. turns_back_in R i p l) (λ i _. eq-eqb (R.from (iterate (turn_back R) i p)) (R.from p) (turns_back_from R i p l))
          (least_apart (turn_back R) p q m.0 m.1 m.2),
    )
