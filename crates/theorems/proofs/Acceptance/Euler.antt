-- Euler's count. The wood has three edges below index 9 and every index from there; of each side and its reverse one goes up, so
-- half of the sides do; and by the turn rule every side carries an edge.
use Prim.Native.Nat.{ℕ, zero, suc, ◌+◌, ◌-◌, ◌*◌, ◌≤◌, ◌<◌}
use mathlib.Core.Path.{◌≡◌, refl, sym, ap, ◌∙◌}
use mathlib.Core.List.{List}
use mathlib.Core.Bool.{Bool, not}
use native.Mathlib.Omega.{arith}
use native.Mathlib.Nat.{add-suc}
use lib.ListN.{length}
use lib.Dec.{leb, ltb}
use borrow.Author.Tests.{ltb-true, ltb-false, lt-ltb, le-ltb, le-leb}
use Rattle.mesh.specs.Search.{count}
use Rattle.mesh.specs.Sides.{from, to}
use Rattle.mesh.specs.Wood.{used, is_edge, edge_at}
use Rattle.mesh.specs.Verdict.{verdict}
use Rattle.mesh.proofs.Tests.{by_bool, or_left}
use Rattle.mesh.proofs.Count.{count_cong, count_inj}
use Rattle.mesh.specs.Paired.{Paired, twin}
use Rattle.mesh.proofs.Paired.{twin_from, twin_to, twin_2}
use Rattle.mesh.proofs.Verdict.{verdict_clear}
use Rattle.theorems.specs.Euler.{Euler}
use Rattle.theorems.proofs.Acceptance.Carried.{side_joined}
use Rattle.theorems.proofs.Accepted.{enough, triangles_length_holds, pairs}
use Rattle.theorems.proofs.Acceptance.Meshes.{accepted_is_mesh}

-- what passes and what does not are all
count_both : (p : ℕ → Bool) (m : ℕ) → count p m + count (λ k. not (p k)) m ≡ m
unfolding count
count_both p zero = refl
count_both p (suc m) = by_bool (p m) (λ t. rw t (omega (arith, count_both p m))) (λ t. rw t (omega (arith, count_both p m)))

-- from index 9 on every one is an edge
edges_from_nine : (k : ℕ) → count used (9 + k) ≡ 3 + k
unfolding count used
edges_from_nine zero = refl
edges_from_nine (suc k) =
    let e : count used (suc (9 + k)) ≡ suc (count used (9 + k)) = rw (or_left (leb 9 (9 + k)) _ (le-leb 9 (9 + k) (omega arith))) (omega arith) in
    ap (count used) (add-suc 9 k) ∙ e ∙ ap suc (edges_from_nine k) ∙ omega arith

edge_count : (n : ℕ) → 3 ≤ n → count (is_edge n) (3 * n) ≡ 3 * n - 6
edge_count n h =
    let s : 3 * n ≡ 9 + (3 * n - 9) = omega arith in
    count_cong (is_edge n) used (3 * n) (λ e l. by_bool (used e) (λ t. rw (t, lt-ltb e (3 * n) l)) (λ t. rw t)) ∙
    ap (count used) s ∙ edges_from_nine (3 * n - 9) ∙ omega arith

-- half of the sides go up
module _ (n : ℕ) (ts : List ℕ) (P : Paired n ts) where
  abbrev up : ℕ → Bool
  up p = ltb (from ts p) (to ts p)

  up_twin : (p : ℕ) → p < length ts → up (twin ts p) ≡ not (up p)
  up_twin p l =
      let d = P.differ p l in
      rw (twin_from n ts P p l, twin_to n ts P p l)
      (by_bool (up p)
      (λ t. let u : from ts p < to ts p = ltb-true (from ts p) (to ts p) t in rw t (le-ltb (to ts p) (from ts p) (omega arith)))
      (λ t. let u : to ts p ≤ from ts p = ltb-false (from ts p) (to ts p) t in rw t (lt-ltb (to ts p) (from ts p) (omega arith))))

  twin_inj : (p q : ℕ) → p < length ts → q < length ts → twin ts p ≡ twin ts q → p ≡ q
  twin_inj p q l g e = sym (twin_2 n ts P p l) ∙ ap (twin ts) e ∙ twin_2 n ts P q g

  half : count up (length ts) + count up (length ts) ≡ length ts
  half =
      let a =
      count_inj (length ts) (length ts) (twin ts) up (λ p. not (up p)) (λ p l t. (P.twin_in p l, rw (up_twin p l, t)))
      (λ p q l g _ _. twin_inj p q l g) in
      let b =
      count_inj (length ts) (length ts) (twin ts) (λ p. not (up p)) up (λ p l t. (P.twin_in p l, up_twin p l ∙ t))
      (λ p q l g _ _. twin_inj p q l g) in
      omega (arith, count_both up (length ts))

pub euler : (n : ℕ) (ts ws : List ℕ) → verdict n ts ws ≡ 0 → Euler n ts ws
euler n ts ws e =
    let A = verdict_clear n ts ws e in
    let h : 3 ≤ n = enough n ts ws A in
    let l = triangles_length_holds n ts ws A in
    record {
      edges = edge_count n h;
      pairs = (let d = half n ts (pairs n ts ws A) in omega arith);
      carried = λ a b s. let c = side_joined n ts ws A a b s in (edge_at ws a b, c.0, c.1);
      triangles = omega arith;
      count_is = omega arith;
      reached = (accepted_is_mesh n ts ws e).reach;
    }
