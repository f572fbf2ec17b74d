-- The labels that an inner vertex sees where 9 and 10 are past: its own edge of colour c is out c, and an edge of colour c that ends at it is
-- into c. No other edge can be meant, since no two join the same pair.
use Prim.Native.Nat.{ℕ, ◌*◌, ◌≤◌, ◌<◌}
use mathlib.Core.Path.{◌≡◌, refl, sym, ◌∙◌}
use mathlib.Core.List.{List}
use mathlib.Core.Logic.{inl, inr}
use native.Mathlib.Omega.{arith}
use lib.ListN.{length, get_or-eq_default}
use lib.Dec.{ltb}
use borrow.Author.Tests.{ltb-true, ltb-false}
use Rattle.mesh.specs.Limits.{unused_mark, most_vertices, wood_length}
use Rattle.mesh.specs.Wood.{out, into, source, target, edge_of, label_of}
use Rattle.mesh.specs.Mesh.{Edge, CornersDiffer, AnchorEdges, EdgesJoin, PairsOnce}
use Rattle.mesh.proofs.Tests.{by_bool}
use Rattle.mesh.proofs.Labels.{sees_out, sees_into}
use Rattle.theorems.proofs.Marked.{anchor_targets_low}

module _ (n : ℕ) (ts ws : List ℕ) (few : n ≤ most_vertices) (long : length ws ≡ wood_length n) (anchors : AnchorEdges ws)
    (differ : CornersDiffer ts) (joins : EdgesJoin n ts ws) (once : PairsOnce n ws) (v : ℕ) (inner : 3 ≤ v) (low : v < n) where
  -- v's own edges
  own : (c : ℕ) → c < 3 → Edge n (edge_of v c)
  own c l = (omega arith, inr (inr (inr (omega arith))))

  -- an index whose target is v is an edge of an inner vertex: anchors' edges end at anchors, and past the table nothing ends
  ends_here : (e : ℕ) → target ws e ≡ v → Edge n e
  ends_here e q =
      by_bool (ltb e (3 * n))
      (λ t.
      let l : e < 3 * n = ltb-true e (3 * n) t in
      by_bool (ltb e 9)
      (λ u.
      let k : e < 9 = ltb-true e 9 u in
      let b = anchors e k in
      absurd (omega (arith, anchor_targets_low e k (omega arith))))
      (λ u. (l, inr (inr (inr (ltb-false e 9 u))))))
      (λ t.
      let l : 3 * n ≤ e = ltb-false e (3 * n) t in
      let d : target ws e ≡ unused_mark = get_or-eq_default ws unused_mark (omega arith) in
      absurd (omega arith))

  at_source : (y k : ℕ) → k < 3 → source (edge_of y k) ≡ y
  at_source y k l = omega arith

  -- v's edges of two colours do not join one pair, nor do two edges of a neighbour that end at v
  pub is_out : (c : ℕ) → c < 3 → label_of ws v (target ws (edge_of v c)) ≡ out c
  is_out c lc =
      let b : ℕ = target ws (edge_of v c) in
      sees_out ws v b c lc refl
      (λ d ld f.
      let z : edge_of v d ≡ edge_of v c =
      once (edge_of v d) (edge_of v c) v b (own d ld) (own c lc) (inl (at_source v d ld, f)) (inl (at_source v c lc, refl)) in
      omega arith)

  pub is_into : (x c : ℕ) → c < 3 → target ws (edge_of x c) ≡ v → label_of ws v x ≡ into c
  is_into x c lc e =
      sees_into ws x v c lc e
      (λ d ld f.
      let z : edge_of x d ≡ edge_of x c =
      once (edge_of x d) (edge_of x c) x v (ends_here (edge_of x d) f) (ends_here (edge_of x c) e) (inl (at_source x d ld, f)) (inl (at_source x c lc, e)) in
      omega arith)
      (λ d ld f.
      let z : edge_of v d ≡ edge_of x c =
      once (edge_of v d) (edge_of x c) v x (own d ld) (ends_here (edge_of x c) e) (inl (at_source v d ld, f)) (inr (at_source x c lc, e)) in
      let w : v ≡ x = omega arith in
      let j = joins (edge_of v d) (own d ld) in
      differ j.position j.within (j.starts ∙ at_source v d ld ∙ w ∙ sym f ∙ sym j.ends))
