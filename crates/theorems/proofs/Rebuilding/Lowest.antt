-- Each triangle has one position with the lowest edge. A position is told apart by its place in the references: twice its edge
-- where it lies left of it, one more where it lies right. So the three edges of a triangle differ, and one of them is the lowest.
use Prim.Native.Nat.{ℕ, ◌+◌, ◌*◌, ◌<◌}
use mathlib.Core.Path.{◌≡◌, refl, sym, ap, ◌∙◌}
use mathlib.Core.List.{List}
use mathlib.Core.Bool.{Bool, true, ◌&&◌}
use mathlib.Core.Logic.{◌≢◌, ◌⊎◌, inl, inr}
use native.Mathlib.Omega.{arith}
use lib.Dec.{ltb}
use borrow.Author.Tests.{ltb-true, ltb-false, lt-ltb}
use Rattle.mesh.specs.Wood.{Label, out, into, bare, target, label_of, edge_by, edge_at}
use Rattle.mesh.specs.Array.{Hand, left, right, front_place}
use Rattle.mesh.proofs.Tests.{by_bool, and_true, and_of}
use Rattle.mesh.proofs.TurnRule.{by_label}
use Rattle.theorems.proofs.Rotation.{Rotation}
use Rattle.mesh.proofs.Labels.{label_is_out, label_is_into}
use Rattle.theorems.proofs.Marked.{Marked, label, all_labelled, is_out, is_into}

-- the hand of its edge on which a side lies
abbrev pub hand_by : Label → Hand
hand_by (out c) = left
hand_by (into c) = right
hand_by bare = right

module _ (R : Rotation) (n : ℕ) (ws : List ℕ) (M : Marked R n ws) where
  open R use {size, next, from, face, face_next, face_cases, next_in, next_3, differ, once}

  -- the edge along the side at p, and the hand on which p lies
  abbrev pub edge : ℕ → ℕ
  edge p = edge_at ws (from p) (from (next p))

  abbrev pub hand : ℕ → Hand
  hand p = hand_by (label_of ws (from p) (from (next p)))

  abbrev pub place : ℕ → ℕ
  place p = front_place (hand p) (edge p)

  to_in : (p : ℕ) → p < size → from (next p) < n
  to_in p l = M.corner (next p) (next_in p l)

  -- an edge joins its ends either way
  pub edge_back : (a b : ℕ) → a < n → b < n → edge_at ws a b ≡ edge_at ws b a
  unfolding edge_at
  edge_back a b la lb =
      by_label (label_of ws a b)
      (λ c e. let t = label_is_out ws a b c e in rw (e, is_into R n ws M a b c la lb t.0 t.1))
      (λ c e. let t = label_is_into ws a b c e in rw (e, is_out R n ws M b a c lb la t.0 t.1))
      (λ e. by_label (label_of ws b a)
      (λ c g. let t = label_is_out ws b a c g in rw (g, is_into R n ws M b a c lb la t.0 t.1))
      (λ c g. let t = label_is_into ws b a c g in rw (g, is_out R n ws M a b c la lb t.0 t.1))
      (λ g. rw (e, g)))

  -- a position lies left of an edge that leaves its vertex, or right of one that comes in
  pub by_hand {ℓ} : {A : Type ℓ} (p : ℕ) → p < size
      → ((c : ℕ) → c < 3 → hand p ≡ left → edge p ≡ 3 * from p + c → target ws (3 * from p + c) ≡ from (next p) → A)
      → ((c : ℕ) → c < 3 → hand p ≡ right → edge p ≡ 3 * from (next p) + c → target ws (3 * from (next p) + c) ≡ from p → A) → A
  unfolding edge_at label
  by_hand p l f g =
      by_label (label_of ws (from p) (from (next p)))
      (λ c e.
      let t = label_is_out ws (from p) (from (next p)) c e in
      f c t.0 (ap hand_by e) (ap (edge_by (from p) (from (next p))) e) t.1)
      (λ c e.
      let t = label_is_into ws (from p) (from (next p)) c e in
      g c t.0 (ap hand_by e) (ap (edge_by (from p) (from (next p))) e) t.1)
      (λ e. absurd (all_labelled R n ws M p l e))

  place_left : (p : ℕ) → hand p ≡ left → place p ≡ 2 * edge p
  place_left p e = ap (λ h. front_place h (edge p)) e

  place_right : (p : ℕ) → hand p ≡ right → place p ≡ 2 * edge p + 1
  place_right p e = ap (λ h. front_place h (edge p)) e

  -- two positions do not have one place
  pub place_inj : (p q : ℕ) → p < size → q < size → place p ≡ place q → p ≡ q
  place_inj p q lp lq e =
      by_hand p lp
      (λ c kc hp fp tp. by_hand q lq
      (λ d kd hq fq tq.
      let w : 3 * from p + c ≡ 3 * from q + d = (let x = place_left p hp in let y = place_left q hq in omega arith) in
      once p q lp lq (omega arith) (sym tp ∙ ap (target ws) w ∙ tq))
      (λ d kd hq fq tq. absurd (let x = place_left p hp in let y = place_right q hq in omega arith)))
      (λ c kc hp fp tp. by_hand q lq
      (λ d kd hq fq tq. absurd (let x = place_right p hp in let y = place_left q hq in omega arith))
      (λ d kd hq fq tq.
      let w : 3 * from (next p) + c ≡ 3 * from (next q) + d = (let x = place_right p hp in let y = place_right q hq in omega arith) in
      once p q lp lq (sym tp ∙ ap (target ws) w ∙ tq) (omega arith)))

  pub place_in : (p : ℕ) → p < size → place p < 6 * n
  place_in p l =
      let a = M.corner p l in
      let b = to_in p l in
      by_hand p l (λ c kc h f t. let x = place_left p h in omega arith) (λ c kc h f t. let x = place_right p h in omega arith)

  -- an edge has one pair of ends
  ends : (p q : ℕ) → p < size → q < size → edge p ≡ edge q
      → ((from p ≡ from q) × (from (next p) ≡ from (next q))) ⊎ ((from p ≡ from (next q)) × (from (next p) ≡ from q))
  ends p q lp lq e =
      by_hand p lp
      (λ c kc hp fp tp. by_hand q lq
      (λ d kd hq fq tq. let w : 3 * from p + c ≡ 3 * from q + d = sym fp ∙ e ∙ fq in inl (omega arith, sym tp ∙ ap (target ws) w ∙ tq))
      (λ d kd hq fq tq. let w : 3 * from p + c ≡ 3 * from (next q) + d = sym fp ∙ e ∙ fq in inr (omega arith, sym tp ∙ ap (target ws) w ∙ tq)))
      (λ c kc hp fp tp. by_hand q lq
      (λ d kd hq fq tq. let w : 3 * from (next p) + c ≡ 3 * from q + d = sym fp ∙ e ∙ fq in inr (sym tp ∙ ap (target ws) w ∙ tq, omega arith))
      (λ d kd hq fq tq. let w : 3 * from (next p) + c ≡ 3 * from (next q) + d = sym fp ∙ e ∙ fq in inl (sym tp ∙ ap (target ws) w ∙ tq, omega arith)))

  -- the edges of a triangle differ
  edges_differ : (p : ℕ) → p < size → edge p ≢ edge (next p)
  edges_differ p l e = go (ends p (next p) l (next_in p l) e)
    where
      go : ((from p ≡ from (next p)) × (from (next p) ≡ from (next (next p)))) ⊎ ((from p ≡ from (next (next p))) × (from (next p) ≡ from (next p))) → ⊥
      go (inl x) = differ p l x.0
      go (inr x) = differ (next (next p)) (next_in (next p) (next_in p l)) (sym x.0 ∙ ap from (sym (next_3 p l)))

  -- the position of its triangle with the lowest edge
  abbrev pub lowest : ℕ → Bool
  lowest p = ltb (edge p) (edge (next p)) && ltb (edge p) (edge (next (next p)))

  lowest_is : (p : ℕ) → lowest p ≡ true → (edge p < edge (next p)) × (edge p < edge (next (next p)))
  lowest_is p e =
      let t = and_true (ltb (edge p) (edge (next p))) (ltb (edge p) (edge (next (next p)))) e in
      (ltb-true (edge p) (edge (next p)) t.0, ltb-true (edge p) (edge (next (next p))) t.1)

  lowest_of_holds : (p : ℕ) → edge p < edge (next p) → edge p < edge (next (next p)) → lowest p ≡ true
  lowest_of_holds p a b =
      and_of (ltb (edge p) (edge (next p))) (ltb (edge p) (edge (next (next p))))
      (lt-ltb (edge p) (edge (next p)) a) (lt-ltb (edge p) (edge (next (next p))) b)

  -- each triangle has one
  pub one_lowest : (p : ℕ) → p < size → (q : ℕ) × (q < size) × (face q ≡ face p) × (lowest q ≡ true)
  one_lowest p l =
      let l1 = next_in p l in
      let l2 = next_in (next p) l1 in
      let c3 : edge (next (next (next p))) ≡ edge p = ap edge (next_3 p l) in
      let c4 : edge (next (next (next (next p)))) ≡ edge (next p) = ap (λ x. edge (next x)) (next_3 p l) in
      let d1 : edge p ≢ edge (next p) = edges_differ p l in
      let d2 : edge (next p) ≢ edge (next (next p)) = edges_differ (next p) l1 in
      let d3 : edge (next (next p)) ≢ edge p = (λ e. edges_differ (next (next p)) l2 (e ∙ sym c3)) in
      by_bool (ltb (edge p) (edge (next p)))
      (λ t.
      let a = ltb-true (edge p) (edge (next p)) t in
      by_bool (ltb (edge p) (edge (next (next p))))
      (λ u. (p, l, refl, lowest_of_holds p a (ltb-true (edge p) (edge (next (next p))) u)))
      (λ u.
      let b = ltb-false (edge p) (edge (next (next p))) u in
      (next (next p), l2, face_next (next p) l1 ∙ face_next p l, lowest_of_holds (next (next p)) (rw c3 (omega arith)) (rw c4 (omega arith)))))
      (λ t.
      let a = ltb-false (edge p) (edge (next p)) t in
      by_bool (ltb (edge (next p)) (edge (next (next p))))
      (λ u. let b = ltb-true (edge (next p)) (edge (next (next p))) u in (next p, l1, face_next p l, lowest_of_holds (next p) b (rw c3 (omega arith))))
      (λ u.
      let b = ltb-false (edge (next p)) (edge (next (next p))) u in
      (next (next p), l2, face_next (next p) l1 ∙ face_next p l, lowest_of_holds (next (next p)) (rw c3 (omega arith)) (rw c4 (omega arith)))))

  -- and no other
  pub only_lowest : (p q : ℕ) → p < size → q < size → face p ≡ face q → lowest p ≡ true → lowest q ≡ true → p ≡ q
  only_lowest p q lp lq f a b = go (face_cases p q lp lq f)
    where
      x : (edge p < edge (next p)) × (edge p < edge (next (next p)))
      x = lowest_is p a

      y : (edge q < edge (next q)) × (edge q < edge (next (next q)))
      y = lowest_is q b

      go : (q ≡ p) ⊎ ((q ≡ next p) ⊎ (q ≡ next (next p))) → p ≡ q
      go (inl e) = sym e
      go (inr (inl e)) =
          absurd
          (let s : edge q ≡ edge (next p) = ap edge e in
          let t : edge (next (next q)) ≡ edge p = ap (λ z. edge (next (next z))) e ∙ ap edge (next_3 p lp) in
          let u = x.0 in
          let v = y.1 in
          omega arith)
      go (inr (inr e)) =
          absurd
          (let s : edge q ≡ edge (next (next p)) = ap edge e in
          let t : edge (next q) ≡ edge p = ap (λ z. edge (next z)) e ∙ ap edge (next_3 p lp) in
          let u = x.1 in
          let v = y.0 in
          omega arith)
