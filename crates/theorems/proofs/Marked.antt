-- What an accepted mesh's wood gives its rotation system, and how labels follow from it: every side has an edge, the same edge seen
-- from both ends; the law of neighbouring labels holds at inner vertices by the turn rule and at anchors because all that comes
-- from inner vertices has the anchor's colour. It fails only on the outer triangle. So `wood` makes it Coloured.
use Prim.Native.Nat.{ℕ, ◌+◌, ◌*◌, ◌/◌, ◌%◌, ◌≤◌, ◌<◌}
use mathlib.Core.Path.{◌≡◌, refl, sym, ap, ◌∙◌, subst}
use mathlib.Core.List.{List}
use mathlib.Core.Bool.{Bool, true, false, ◌||◌}
use mathlib.Core.Logic.{◌≢◌, ◌⊎◌, inl, inr}
use native.Mathlib.Omega.{arith}
use lib.Dec.{leb, ltb, eqb}
use borrow.Author.Tests.{ltb-true, ltb-false, leb-true, eqb-true, eq-eqb}
use Rattle.mesh.specs.Search.{first, first_from, every}
use Rattle.mesh.specs.Limits.{at, unused_mark}
use Rattle.mesh.specs.Wood.{Label, out, into, bare, target, anchor_targets, label_of}
use Rattle.mesh.proofs.Tests.{by_bool, clash, or_true, by3}
use Rattle.mesh.proofs.Search.{every_at}
use Rattle.mesh.proofs.Labels.{label_is_out, label_is_into, sees_out, sees_into}
use Rattle.mesh.proofs.TurnRule.{Step, by_label}
use Rattle.theorems.proofs.Rotation.{Rotation, turn, turn_in, turn_from, turn_next, turn_back, turn_back_turn, to_twin}
use Rattle.theorems.proofs.Coloured.{Coloured, swap, swap_2}

pub anchor_targets_low : (i : ℕ) → i < 9 → at anchor_targets i < unused_mark → at anchor_targets i < 3
unfolding every first first_from
anchor_targets_low i l h = or_true (ltb (at anchor_targets i) 3) (eqb (at anchor_targets i) unused_mark)
    (every_at (λ i. ltb (at anchor_targets i) 3 || eqb (at anchor_targets i) unused_mark) 9 refl i l)
    (λ t. ltb-true (at anchor_targets i) 3 t)
    (λ t. absurd (omega (arith, eqb-true (at anchor_targets i) unused_mark t)))

anchor_targets_colour : (i : ℕ) → i < 9 → at anchor_targets i < 3 → i % 3 ≡ at anchor_targets i
unfolding every first first_from
anchor_targets_colour i l h = or_true (leb 3 (at anchor_targets i)) (eqb (i % 3) (at anchor_targets i))
    (every_at (λ i. leb 3 (at anchor_targets i) || eqb (i % 3) (at anchor_targets i)) 9 refl i l)
    (λ t. absurd (omega (arith, leb-true 3 (at anchor_targets i) t)))
    (λ t. eqb-true (i % 3) (at anchor_targets i) t)

-- what the wood gives a mesh
pub record Marked (R : Rotation) (n : ℕ) (ws : List ℕ) : Type 0 where
  pub few : n < unused_mark
  pub corner : (p : ℕ) → p < R.size → R.from p < n
  pub anchor_edges : (i : ℕ) → i < 9 → target ws i ≡ at anchor_targets i
  pub edge_side : (e : ℕ) → 9 ≤ e → e < 3 * n → (p : ℕ) × (p < R.size) × (R.from p ≡ e / 3) × (R.from (R.next p) ≡ target ws e)
  -- no pair twice
  pub pair_once : (a b c d : ℕ) → a < n → b < n → c < 3 → d < 3 → target ws (3 * a + c) ≡ b → target ws (3 * a + d) ≡ b → c ≡ d
  pub one_way : (a b c d : ℕ) → a < n → b < n → c < 3 → d < 3 → target ws (3 * a + c) ≡ b → target ws (3 * b + d) ≡ a → ⊥
  pub anchor_rule : (e : ℕ) → 9 ≤ e → e < 3 * n → target ws e < 3 → e % 3 ≡ target ws e
  -- the law of neighbouring labels at inner vertices
  pub inner : (p : ℕ) → p < R.size → 3 ≤ R.from p → Step (label_of ws (R.from p) (R.from (R.next p))) (label_of ws (R.from (turn R p)) (R.from (R.next (turn R p))))
  -- the position of the outer triangle at which it reads 0, 2, 1
  pub outer_at : ℕ
  pub outer_in : outer_at < R.size
  pub outer_0 : R.from outer_at ≡ 0
  pub outer_2 : R.from (R.next outer_at) ≡ 2
  pub outer_1 : R.from (R.next (R.next outer_at)) ≡ 1

module _ (R : Rotation) (n : ℕ) (ws : List ℕ) (M : Marked R n ws) where
  open R use {size, next, twin, from, face, face_next, face_cases, next_in, next_3, twin_in, twin_2, from_twin, differ, once}

  -- an edge found is the label
  pub is_out : (a b c : ℕ) → a < n → b < n → c < 3 → target ws (3 * a + c) ≡ b → label_of ws a b ≡ out c
  is_out a b c la lb lc e = sees_out ws a b c lc e (λ d ld f. M.pair_once a b d c la lb ld lc f e)

  pub is_into : (a b c : ℕ) → a < n → b < n → c < 3 → target ws (3 * a + c) ≡ b → label_of ws b a ≡ into c
  is_into a b c la lb lc e =
      sees_into ws a b c lc e (λ d ld f. M.pair_once a b d c la lb ld lc f e) (λ d ld f. M.one_way a b c d la lb lc ld e f)

  flip_of : (a b : ℕ) → a < n → b < n → label_of ws b a ≡ swap (label_of ws a b)
  flip_of a b la lb = by_label (label_of ws a b)
      (λ c e. let t = label_is_out ws a b c e in is_into a b c la lb t.0 t.1 ∙ ap swap (sym e))
      (λ c e. let t = label_is_into ws a b c e in is_out b a c lb la t.0 t.1 ∙ ap swap (sym e))
      (λ e. by_label (label_of ws b a)
      (λ c f. let t = label_is_out ws b a c f in let z = is_into b a c lb la t.0 t.1 in absurd (let y : ◌≡◌ {A = ℕ} 0 1 = cc in omega arith))
      (λ c f. let t = label_is_into ws b a c f in let z = is_out a b c la lb t.0 t.1 in absurd (let y : ◌≡◌ {A = ℕ} 0 1 = cc in omega arith))
      (λ f. f ∙ ap swap (sym e)))

  unfoldable pub label : ℕ → Label
  label p = label_of ws (from p) (from (next p))

  to_in : (p : ℕ) → p < size → from (next p) < n
  to_in p l = M.corner (next p) (next_in p l)

  pub flip : (p : ℕ) → p < size → label (twin p) ≡ swap (label p)
  unfolding label
  flip p l = rw (from_twin p l, to_twin R p l) (flip_of (from p) (from (next p)) (M.corner p l) (to_in p l))

  -- the place of the edge of colour c out of an inner vertex
  pub edge_at : (v c : ℕ) → 3 ≤ v → v < n → c < 3 → (p : ℕ) × (p < size) × (from p ≡ v) × (label p ≡ out c)
  unfolding label
  edge_at v c a b l =
      let t = M.edge_side (3 * v + c) (omega arith) (omega arith) in
      let p : ℕ = t.0 in
      let f : from p ≡ v = t.2 ∙ omega arith in
      (p, t.1, f, is_out (from p) (from (next p)) c (M.corner p t.1) (to_in p t.1) l (rw f (sym t.3)))

  -- the law at an inner vertex
  local_inner : (p : ℕ) → p < size → 3 ≤ from p → Step (label p) (label (turn R p))
  unfolding label
  local_inner p l h = M.inner p l h

  -- a side at an inner vertex has a label
  inner_labelled : (p : ℕ) → p < size → 3 ≤ from p → label p ≢ bare
  inner_labelled p l h e = subst (λ x. Step x (label (turn R p))) e (local_inner p l h)

  pub flip' : (p : ℕ) → p < size → label p ≡ swap (label (twin p))
  flip' p l = sym (swap_2 (label p)) ∙ ap swap (sym (flip p l))

  -- an edge out of an anchor ends at an anchor
  low_end : (i : ℕ) → i < 9 → target ws i < n → target ws i < 3
  low_end i l h = let b = M.anchor_edges i l in let f = M.few in rw b (anchor_targets_low i l (omega arith))

  -- at an anchor all that comes from inner vertices has its colour
  at_anchor : (p : ℕ) → p < size → from p < 3 → 3 ≤ from (next p) → label p ≡ into (from p)
  unfolding label
  at_anchor p l h k =
      let ft : from (twin p) ≡ from (next p) = from_twin p l in
      let tt' : from (next (twin p)) ≡ from p = to_twin R p l in
      let ln = to_in p l in
      by_label (label (twin p))
      (λ c e. let t = label_is_out ws (from (twin p)) (from (next (twin p))) c e in
      let kc = t.0 in
      let w : target ws (3 * from (next p) + c) ≡ from p = rw (← ft) (t.1 ∙ tt') in
      let z = M.anchor_rule (3 * from (next p) + c) (omega arith) (omega arith) (omega arith) in
      let q : c ≡ from p = omega arith in
      flip' p l ∙ ap swap e ∙ ap into q)
      (λ c e. let t = label_is_into ws (from (twin p)) (from (next (twin p))) c e in
      let kc = t.0 in
      let w : target ws (3 * from p + c) ≡ from (next p) = rw (← tt') (t.1 ∙ ft) in
      absurd (omega (arith, low_end (3 * from p + c) (omega arith) (omega arith))))
      (λ e. absurd (inner_labelled (twin p) (twin_in p l) (rw ft k) e))

  -- the sides between anchors
  pub three : 2 < n
  three = subst (λ x. x < n) M.outer_2 (to_in M.outer_at M.outer_in)

  pub e3 : target ws 3 ≡ 0
  e3 = M.anchor_edges 3 (omega arith)

  pub e6 : target ws 6 ≡ 0
  e6 = M.anchor_edges 6 (omega arith)

  pub e7 : target ws 7 ≡ 1
  e7 = M.anchor_edges 7 (omega arith)

  pub label_between : (p a b : ℕ) → from p ≡ a → from (next p) ≡ b → label p ≡ label_of ws a b
  unfolding label
  label_between p a b e f = rw (e, f)

  pub at0 : (p : ℕ) → p < size → from p ≡ 0 → label p ≡ into 0
  at0 p l e = let k = three in by_bool (ltb (from (next p)) 3)
      (λ t. by3 (from (next p)) (ltb-true (from (next p)) 3 t)
      (λ z. absurd (differ p l (e ∙ sym z)))
      (λ z. label_between p 0 1 e z ∙ is_into 1 0 0 (omega arith) (omega arith) (omega arith) e3)
      (λ z. label_between p 0 2 e z ∙ is_into 2 0 0 (omega arith) (omega arith) (omega arith) e6))
      (λ t. at_anchor p l (omega arith) (ltb-false (from (next p)) 3 t) ∙ ap into e)

  pub at1 : {A : Type 0} (p : ℕ) → p < size → from p ≡ 1 → (from (next p) ≡ 0 → label p ≡ out 0 → A) → (label p ≡ into 1 → A) → A
  at1 p l e f g = let k = three in by_bool (ltb (from (next p)) 3)
      (λ t. by3 (from (next p)) (ltb-true (from (next p)) 3 t)
      (λ z. f z (label_between p 1 0 e z ∙ is_out 1 0 0 (omega arith) (omega arith) (omega arith) e3))
      (λ z. absurd (differ p l (e ∙ sym z)))
      (λ z. g (label_between p 1 2 e z ∙ is_into 2 1 1 (omega arith) (omega arith) (omega arith) e7)))
      (λ t. g (at_anchor p l (omega arith) (ltb-false (from (next p)) 3 t) ∙ ap into e))

  pub at2 : {A : Type 0} (p : ℕ) → p < size → from p ≡ 2 → (from (next p) ≡ 0 → label p ≡ out 0 → A) → (from (next p) ≡ 1 → label p ≡ out 1 → A) → (label p ≡ into 2 → A) → A
  at2 p l e f g h = let k = three in by_bool (ltb (from (next p)) 3)
      (λ t. by3 (from (next p)) (ltb-true (from (next p)) 3 t)
      (λ z. f z (label_between p 2 0 e z ∙ is_out 2 0 0 (omega arith) (omega arith) (omega arith) e6))
      (λ z. g z (label_between p 2 1 e z ∙ is_out 2 1 1 (omega arith) (omega arith) (omega arith) e7))
      (λ z. absurd (differ p l (e ∙ sym z))))
      (λ t. h (at_anchor p l (omega arith) (ltb-false (from (next p)) 3 t) ∙ ap into e))

  abbrev pub outer : ℕ → Bool
  outer p = eqb (face p) (face M.outer_at)

  pub outer_next : (p : ℕ) → p < size → outer (next p) ≡ outer p
  outer_next p l = ap (λ x. eqb x (face M.outer_at)) (face_next p l)

  -- the outer sides
  is10 : (p : ℕ) → p < size → from p ≡ 1 → from (next p) ≡ 0 → outer p ≡ true
  is10 p l a b =
      let o = M.outer_at in let lo = M.outer_in in let l2 = next_in (next o) (next_in o lo) in
      let q : p ≡ next (next o) = once p (next (next o)) l l2 (a ∙ sym M.outer_1) (b ∙ sym M.outer_0 ∙ ap from (sym (next_3 o lo))) in
      eq-eqb (face p) (face o) (ap face q ∙ face_next (next o) (next_in o lo) ∙ face_next o lo)

  is21 : (p : ℕ) → p < size → from p ≡ 2 → from (next p) ≡ 1 → outer p ≡ true
  is21 p l a b =
      let o = M.outer_at in let lo = M.outer_in in
      let q : p ≡ next o = once p (next o) l (next_in o lo) (a ∙ sym M.outer_2) (b ∙ sym M.outer_1) in
      eq-eqb (face p) (face o) (ap face q ∙ face_next o lo)

  -- before the side from 2 to 0 comes the outer one
  is20 : (p : ℕ) → p < size → from p ≡ 2 → from (next (turn R p)) ≡ 0 → outer p ≡ true
  is20 p l a b =
      let o = M.outer_at in let lo = M.outer_in in
      let q : turn R p ≡ turn R (next o) = once (turn R p) (turn R (next o)) (turn_in R p l) (turn_in R (next o) (next_in o lo))
      (turn_from R p l ∙ a ∙ sym (turn_from R (next o) (next_in o lo) ∙ M.outer_2)) (b ∙ sym (ap (λ x. from (next x)) (turn_next R o lo) ∙ to_twin R o lo ∙ M.outer_0)) in
      let r : p ≡ next o = sym (turn_back_turn R p l) ∙ ap (turn_back R) q ∙ turn_back_turn R (next o) (next_in o lo) in
      eq-eqb (face p) (face o) (ap face r ∙ face_next o lo)

  step : (a b c d : Label) → a ≡ c → b ≡ d → Step c d → Step a b
  step a b c d p q s = rw (p, q) s

  pub local : (p : ℕ) → p < size → outer p ≡ false → Step (label p) (label (turn R p))
  local p l h =
      let lr = turn_in R p l in let fr' = turn_from R p l in
      by_bool (ltb (from p) 3)
      (λ t. by3 (from p) (ltb-true (from p) 3 t)
      (λ z. step (label p) (label (turn R p)) (into 0) (into 0) (at0 p l z) (at0 (turn R p) lr (fr' ∙ z)) refl)
      (λ z. at1 p l z
      (λ w _. clash (outer p) (is10 p l z w) h)
      (λ e. at1 (turn R p) lr (fr' ∙ z)
      (λ w f. step (label p) (label (turn R p)) (into 1) (out 0) e f refl)
      (λ f. step (label p) (label (turn R p)) (into 1) (into 1) e f refl)))
      (λ z. at2 (turn R p) lr (fr' ∙ z)
      (λ w _. clash (outer p) (is20 p l z w) h)
      (λ w f. at2 p l z
      (λ _ e. step (label p) (label (turn R p)) (out 0) (out 1) e f refl)
      (λ u _. clash (outer p) (is21 p l z u) h)
      (λ e. step (label p) (label (turn R p)) (into 2) (out 1) e f refl))
      (λ f. at2 p l z
      (λ _ e. step (label p) (label (turn R p)) (out 0) (into 2) e f refl)
      (λ u _. clash (outer p) (is21 p l z u) h)
      (λ e. step (label p) (label (turn R p)) (into 2) (into 2) e f refl))))
      (λ t. local_inner p l (ltb-false (from p) 3 t))

  pub out_is : (p c : ℕ) → label p ≡ out c → (c < 3) × (target ws (3 * from p + c) ≡ from (next p))
  unfolding label
  out_is p c e = label_is_out ws (from p) (from (next p)) c e

  pub to3 : (p c : ℕ) → p < size → label p ≡ out c → 3 * from p + c ≡ 3 → from (next p) ≡ 0
  to3 p c l e q = sym (out_is p c e).1 ∙ ap (target ws) q ∙ e3

  pub to7 : (p c : ℕ) → p < size → label p ≡ out c → 3 * from p + c ≡ 7 → from (next p) ≡ 1
  to7 p c l e q = sym (out_is p c e).1 ∙ ap (target ws) q ∙ e7

  pub outer3 : (p c : ℕ) → p < size → label p ≡ out c → 3 * from p + c ≡ 3 → outer p ≡ true
  outer3 p c l e q = let k = (out_is p c e).0 in is10 p l (omega arith) (to3 p c l e q)

  pub outer7 : (p c : ℕ) → p < size → label p ≡ out c → 3 * from p + c ≡ 7 → outer p ≡ true
  outer7 p c l e q = let k = (out_is p c e).0 in is21 p l (omega arith) (to7 p c l e q)

  pub inside : (p c : ℕ) → p < size → label p ≡ out c → 3 * from p + c ≢ 3 → 3 * from p + c ≢ 7 → outer p ≡ false
  inside p c l e a b = let o = M.outer_at in let lo = M.outer_in in
      by_bool (outer p) (λ t. absurd (go (face_cases M.outer_at p M.outer_in l (sym (eqb-true (face p) (face M.outer_at) t))))) (λ t. t)
    where
      not_both : (x y : Label) → x ≡ y → (i j : ℕ) → x ≡ out i → y ≡ into j → ⊥
      not_both x y e i j p q = let z : ◌≡◌ {A = ℕ} 0 1 = cc in omega arith

      same : (x : Label) (i j : ℕ) → x ≡ out i → x ≡ out j → i ≡ j
      same x i j p q = cc

      go : (p ≡ M.outer_at) ⊎ ((p ≡ next M.outer_at) ⊎ (p ≡ next (next M.outer_at))) → ⊥
      go (inl q) = not_both (label p) (label p) refl c 0 e (at0 p l (ap from q ∙ M.outer_0))
      go (inr (inl q)) = let f : from p ≡ 2 = ap from q ∙ M.outer_2 in let g : from (next p) ≡ 1 = ap (λ x. from (next x)) q ∙ M.outer_1 in let k = three in
          let z : c ≡ 1 = same (label p) c 1 e (label_between p 2 1 f g ∙ is_out 2 1 1 (omega arith) (omega arith) (omega arith) e7) in b (omega arith)
      go (inr (inr q)) = let f : from p ≡ 1 = ap from q ∙ M.outer_1 in let g : from (next p) ≡ 0 = ap (λ x. from (next x)) q ∙ ap from (next_3 M.outer_at M.outer_in) ∙ M.outer_0 in let k = three in
          let z : c ≡ 0 = same (label p) c 0 e (label_between p 1 0 f g ∙ is_out 1 0 0 (omega arith) (omega arith) (omega arith) e3) in a (omega arith)

  -- on the right of an edge: only edge 6 has the outer triangle there
  pub outer6 : (p c : ℕ) → p < size → label p ≡ out c → 3 * from p + c ≡ 6 → outer (twin p) ≡ true
  outer6 p c l e q =
      let t = out_is p c e in
      let k = t.0 in
      let o = M.outer_at in
      let f : from p ≡ 2 = omega arith in
      let g : from (next p) ≡ 0 = sym t.1 ∙ ap (target ws) q ∙ e6 in
      let z : twin p ≡ o = once (twin p) o (twin_in p l) M.outer_in (from_twin p l ∙ g ∙ sym M.outer_0) (to_twin R p l ∙ f ∙ sym M.outer_2) in
      eq-eqb (face (twin p)) (face o) (ap face z)

  pub inside6 : (p c : ℕ) → p < size → label p ≡ out c → 3 * from p + c ≢ 6 → outer (twin p) ≡ false
  inside6 p c l e a =
      let o = M.outer_at in
      by_bool (outer (twin p)) (λ t. absurd (go (face_cases o (twin p) M.outer_in (twin_in p l) (sym (eqb-true (face (twin p)) (face o) t))))) (λ t. t)
    where
      swapped : label (twin p) ≡ into c
      swapped = flip p l ∙ ap swap e

      not_out : (i : ℕ) → label (twin p) ≡ out i → ⊥
      not_out i q = let z : into c ≡ out i = sym swapped ∙ q in let y : ◌≡◌ {A = ℕ} 0 1 = cc in omega arith

      go : (twin p ≡ M.outer_at) ⊎ ((twin p ≡ next M.outer_at) ⊎ (twin p ≡ next (next M.outer_at))) → ⊥
      go (inl q) =
          let k = three in
          let f : from p ≡ 2 = sym (to_twin R p l) ∙ ap (λ x. from (next x)) q ∙ M.outer_2 in
          let g : from (next p) ≡ 0 = sym (from_twin p l) ∙ ap from q ∙ M.outer_0 in
          let y : out c ≡ out 0 = sym e ∙ label_between p 2 0 f g ∙ is_out 2 0 0 (omega arith) (omega arith) (omega arith) e6 in
          let z : c ≡ 0 = cc in
          a (omega arith)
      go (inr (inl q)) =
          let k = three in
          let f : from (twin p) ≡ 2 = ap from q ∙ M.outer_2 in
          let g : from (next (twin p)) ≡ 1 = ap (λ x. from (next x)) q ∙ M.outer_1 in
          not_out 1 (label_between (twin p) 2 1 f g ∙ is_out 2 1 1 (omega arith) (omega arith) (omega arith) e7)
      go (inr (inr q)) =
          let k = three in
          let f : from (twin p) ≡ 1 = ap from q ∙ M.outer_1 in
          let g : from (next (twin p)) ≡ 0 = ap (λ x. from (next x)) q ∙ ap from (next_3 M.outer_at M.outer_in) ∙ M.outer_0 in
          not_out 0 (label_between (twin p) 1 0 f g ∙ is_out 1 0 0 (omega arith) (omega arith) (omega arith) e3)

  pub anchor : (p c : ℕ) → p < size → label p ≡ out c → from (next p) < 3 → c ≡ from (next p)
  anchor p c l e h =
      let t = out_is p c e in let k = t.0 in let w = t.1 in let lp = M.corner p l in
      by_bool (ltb (from p) 3)
      (λ u. let m : from p < 3 = ltb-true (from p) 3 u in let b = M.anchor_edges (3 * from p + c) (omega arith) in
      let z = anchor_targets_colour (3 * from p + c) (omega arith) (omega arith) in omega arith)
      (λ u. let m : 3 ≤ from p = ltb-false (from p) 3 u in let z = M.anchor_rule (3 * from p + c) (omega arith) (omega arith) (omega arith) in omega arith)

  abbrev pub wood : Coloured R
  wood = record {
    label = label;
    outer = outer;
    colour_in = λ p c l e. (out_is p c e).0;
    flip = flip;
    outer_next = outer_next;
    outer3 = outer3;
    outer7 = outer7;
    inside = inside;
    to3 = to3;
    to7 = to7;
    anchor = anchor;
    local = local;
  }

  pub all_labelled : (p : ℕ) → p < size → label p ≢ bare
  all_labelled p l e = by_bool (ltb (from p) 3)
      (λ t. by3 (from p) (ltb-true (from p) 3 t)
      (λ z. is_into' (at0 p l z))
      (λ z. at1 p l z (λ _ q. is_out' q) (λ q. is_into' q))
      (λ z. at2 p l z (λ _ q. is_out' q) (λ _ q. is_out' q) (λ q. is_into' q)))
      (λ t. inner_labelled p l (ltb-false (from p) 3 t) e)
    where
      bad : (x y : Label) → x ≡ y → (c : ℕ) → (y ≡ into c) ⊎ (y ≡ out c) → x ≡ bare → ⊥
      bad x y e c (inl f) g = let z : ◌≡◌ {A = ℕ} 0 1 = cc in omega arith
      bad x y e c (inr f) g = let z : ◌≡◌ {A = ℕ} 0 1 = cc in omega arith

      is_into' : {c : ℕ} → label p ≡ into c → ⊥
      is_into' {c} q = bad (label p) (into c) q c (inl refl) e

      is_out' : {c : ℕ} → label p ≡ out c → ⊥
      is_out' {c} q = bad (label p) (out c) q c (inr refl) e
