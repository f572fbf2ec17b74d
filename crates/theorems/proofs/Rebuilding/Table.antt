-- The table that is written from an accepted mesh's references and wood holds the mesh's triangles, turned and in another order.
-- Places that write and triangles are as many, since each triangle is written at its one lowest position; so triangle i of
-- the written table stands at the place before which i places write, and position q of the table is `origin q` of the mesh.
use Prim.Native.Nat.{ℕ, zero, suc, ◌+◌, ◌-◌, ◌*◌, ◌/◌, ◌%◌, ◌<◌}
use mathlib.Core.Path.{◌≡◌, refl, sym, ap, ◌∙◌}
use mathlib.Core.List.{List, [], ◌∷◌}
use mathlib.Core.Bool.{Bool, true, ◌&&◌}
use mathlib.Core.Logic.{◌≢◌}
use native.Mathlib.Omega.{arith}
use native.Mathlib.Nat.{add-zero}
use lib.ListN.{length}
use lib.Dec.{eqb}
use borrow.Author.Tests.{eqb-true, eqb-false, eq-eqb}
use Rattle.mesh.specs.Search.{first, count, iterate, gather}
use Rattle.mesh.specs.Limits.{at, triangles_length}
use Rattle.mesh.specs.Sides.{next, from, to}
use Rattle.mesh.specs.Wood.{used}
use Rattle.mesh.specs.Array.{hand_at}
use Rattle.mesh.specs.Rebuild.{is_lowest, written_at, triangles_from}
use Rattle.mesh.proofs.Tests.{by_bool, and_true, and_of, by3}
use Rattle.mesh.proofs.Search.{first_law, first_le}
use Rattle.mesh.proofs.Count.{count_inj, count_all}
use Rattle.mesh.proofs.Positions.{next_div, next_mod, next_3, same_digits}
use Rattle.mesh.proofs.Paired.{next_within}
use Rattle.mesh.proofs.Written.{writes, written_length}
use Rattle.mesh.specs.Verdict.{Clear}
use Rattle.theorems.proofs.Accepted.{surface, pairs, marked, enough, triangles_length_holds, whole}
use Rattle.theorems.proofs.Rebuilding.Chunks.{nth, chunks_length, chunk_at}
use Rattle.theorems.proofs.Rebuilding.Lowest.{place_inj, place_in, one_lowest, only_lowest}
use Rattle.theorems.proofs.Rebuilding.Written.{refs, place_of, is_low, writes_low, written_is, position, position_is}
use Rattle.theorems.proofs.Rebuilding.Permuted.{Permuted}

module _ (n : ℕ) (ts ws : List ℕ) (A : Clear n ts ws) where
  -- how many triangles there are
  abbrev many : ℕ
  many = 2 * n - 4

  abbrev pub written : ℕ → Bool
  written i = writes (refs n ts ws A) ws i

  abbrev low : ℕ → Bool
  low p = is_low n ts ws A p

  abbrev placed : ℕ → ℕ
  placed p = place_of n ts ws A p

  abbrev posed : ℕ → ℕ
  posed i = position n ts ws A i

  -- a place that writes is that of a lowest position
  written_low : (i : ℕ) → i < 6 * n → written i ≡ true → (posed i < length ts) × (placed (posed i) ≡ i) × (low (posed i) ≡ true)
  written_low i l e =
      let t = and_true (used (i / 2)) (is_lowest (hand_at i) (refs n ts ws A) ws (i / 2)) e in
      let p = position_is n ts ws A i t.0 l in
      (p.0, p.1, sym (writes_low n ts ws A (posed i) p.0) ∙ ap written p.1 ∙ e)

  -- the lowest position of triangle t
  lowest_of : ℕ → ℕ
  lowest_of t = first (λ q. eqb (q / 3) t && low q) (length ts)

  lowest_of_is : (t : ℕ) → t < many → (lowest_of t < length ts) × (lowest_of t / 3 ≡ t) × (low (lowest_of t) ≡ true)
  unfolding lowest_of
  lowest_of_is t l =
      let w = whole n ts ws A in
      let q = one_lowest (surface n ts ws A) n ws (marked n ts ws A) (3 * t) (omega arith) in
      let lq = q.1 in
      let d : q.0 / 3 ≡ t = q.2 ∙ omega arith in
      let b = first_le (λ q. eqb (q / 3) t && low q) (length ts) q.0 q.1 (and_of (eqb (q.0 / 3) t) (low q.0) (eq-eqb (q.0 / 3) t d) q.3) in
      let h : lowest_of t < length ts = omega arith in
      let u = and_true (eqb (lowest_of t / 3) t) (low (lowest_of t)) ((first_law (λ q. eqb (q / 3) t && low q) (length ts)).hit h) in
      (h, eqb-true (lowest_of t / 3) t u.0, u.1)

  as_many : count written (6 * n) ≡ many
  as_many =
      let w = whole n ts ws A in
      let a =
      count_inj (6 * n) many (λ i. posed i / 3) written (λ t. true)
      (λ i l e. (let h = (written_low i l e).0 in omega arith, refl))
      (λ i j li lj ei ej q.
      let x = written_low i li ei in
      let y = written_low j lj ej in
      sym x.1 ∙ ap placed (only_lowest (surface n ts ws A) n ws (marked n ts ws A) (posed i) (posed j) x.0 y.0 q x.2 y.2) ∙ y.1) in
      let b =
      count_inj many (6 * n) (λ t. placed (lowest_of t)) (λ t. true) written
      (λ t l _.
      let x = lowest_of_is t l in
      (place_in (surface n ts ws A) n ws (marked n ts ws A) (lowest_of t) x.0, writes_low n ts ws A (lowest_of t) x.0 ∙ x.2))
      (λ s t ls lt _ _ e.
      let x = lowest_of_is s ls in
      let y = lowest_of_is t lt in
      sym x.1 ∙ ap (λ z. z / 3) (place_inj (surface n ts ws A) n ws (marked n ts ws A) (lowest_of s) (lowest_of t) x.0 y.0 e) ∙ y.1) in
      let c = count_all many in
      omega arith

  -- the place before which i places write, and the position of the mesh at which triangle i of the written table begins
  place_no : ℕ → ℕ
  place_no i = first (λ k. written k && eqb (count written k) i) (6 * n)

  place_no_is : (i : ℕ) → i < many → (place_no i < 6 * n) × (written (place_no i) ≡ true) × (count written (place_no i) ≡ i)
  unfolding place_no
  place_no_is i l =
      let c = as_many in
      let k = nth written (6 * n) i (omega arith) in
      let lk = k.1 in
      let b = first_le (λ k. written k && eqb (count written k) i) (6 * n) k.0 k.1 (and_of (written k.0) (eqb (count written k.0) i) k.2 (eq-eqb (count written k.0) i k.3)) in
      let h : place_no i < 6 * n = omega arith in
      let u = and_true (written (place_no i)) (eqb (count written (place_no i)) i) ((first_law (λ k. written k && eqb (count written k) i) (6 * n)).hit h) in
      (h, u.0, eqb-true (count written (place_no i)) i u.1)

  beginning : ℕ → ℕ
  beginning i = posed (place_no i)

  beginning_is : (i : ℕ) → i < many → (beginning i < length ts) × (placed (beginning i) ≡ place_no i) × (low (beginning i) ≡ true)
  unfolding beginning
  beginning_is i l = let k = place_no_is i l in written_low (place_no i) k.0 k.1

  beginning_inj : (i j : ℕ) → i < many → j < many → beginning i / 3 ≡ beginning j / 3 → i ≡ j
  beginning_inj i j li lj e =
      let x = beginning_is i li in
      let y = beginning_is j lj in
      let q : beginning i ≡ beginning j = only_lowest (surface n ts ws A) n ws (marked n ts ws A) (beginning i) (beginning j) x.0 y.0 e x.2 y.2 in
      sym (place_no_is i li).2 ∙ ap (count written) (sym x.1 ∙ ap placed q ∙ y.1) ∙ (place_no_is j lj).2

  -- where position q of the written table comes from
  pub origin : ℕ → ℕ
  origin q = iterate next (q % 3) (beginning (q / 3))

  nexts_in : (k p : ℕ) → p < length ts → iterate next k p < length ts
  unfolding iterate
  nexts_in zero p l = l
  nexts_in (suc k) p l = next_within n ts (pairs n ts ws A) (iterate next k p) (nexts_in k p l)

  nexts_div : (k p : ℕ) → iterate next k p / 3 ≡ p / 3
  unfolding iterate
  nexts_div zero p = refl
  nexts_div (suc k) p = next_div (iterate next k p) ∙ nexts_div k p

  nexts_mod : (k p : ℕ) → iterate next k p % 3 ≡ (p + k) % 3
  unfolding iterate
  nexts_mod zero p = ap (λ x. x % 3) (sym (add-zero p))
  nexts_mod (suc k) p = next_mod (iterate next k p) ∙ step (iterate next k p) (p + k) (nexts_mod k p) ∙ ap (λ x. x % 3) (omega arith)
    where
      step : (a b : ℕ) → a % 3 ≡ b % 3 → (a + 1) % 3 ≡ (b + 1) % 3
      step a b e = omega arith

  nexts_inj : (p i j : ℕ) → i < 3 → j < 3 → iterate next i p ≡ iterate next j p → i ≡ j
  nexts_inj p i j li lj e = apart p i j li lj (sym (nexts_mod i p) ∙ ap (λ x. x % 3) e ∙ nexts_mod j p)
    where
      apart : (p i j : ℕ) → i < 3 → j < 3 → (p + i) % 3 ≡ (p + j) % 3 → i ≡ j
      apart p i j li lj e = omega arith

  begins_in : (q : ℕ) → q < length ts → q / 3 < many
  begins_in q l = let w = whole n ts ws A in omega arith

  origin_in : (q : ℕ) → q < length ts → origin q < length ts
  unfolding origin
  origin_in q l = nexts_in (q % 3) (beginning (q / 3)) (beginning_is (q / 3) (begins_in q l)).0

  origin_next : (q : ℕ) → q < length ts → origin (next q) ≡ next (origin q)
  unfolding origin iterate
  origin_next q l =
      let p : ℕ = beginning (q / 3) in
      ap (λ x. iterate next (next q % 3) (beginning x)) (next_div q) ∙ ap (λ x. iterate next x p) (next_mod q) ∙
      by_bool (eqb (q % 3) 2)
      (λ t.
      let e = eqb-true (q % 3) 2 t in
      let z : (q + 1) % 3 ≡ 0 = omega arith in
      ap (λ x. iterate next x p) z ∙ sym (next_3 p) ∙ ap (λ x. next (iterate next x p)) (sym e))
      (λ t.
      let e : q % 3 ≢ 2 = eqb-false (q % 3) 2 t in
      let z : (q + 1) % 3 ≡ suc (q % 3) = omega arith in
      ap (λ x. iterate next x p) z)

  origin_inj : (p q : ℕ) → p < length ts → q < length ts → origin p ≡ origin q → p ≡ q
  unfolding origin
  origin_inj p q lp lq e =
      let d : p / 3 ≡ q / 3 =
      beginning_inj (p / 3) (q / 3) (begins_in p lp) (begins_in q lq)
      (sym (nexts_div (p % 3) (beginning (p / 3))) ∙ ap (λ x. x / 3) e ∙ nexts_div (q % 3) (beginning (q / 3))) in
      same_digits p q d
      (nexts_inj (beginning (q / 3)) (p % 3) (q % 3) (omega arith) (omega arith) (ap (λ x. iterate next (p % 3) (beginning x)) (sym d) ∙ e))

  -- what stands at k of a triangle's three corners
  corner_no : (p k : ℕ) → k < 3 → at (from ts p ∷ to ts p ∷ from ts (next (next p)) ∷ []) k ≡ from ts (iterate next k p)
  unfolding iterate
  corner_no p k l = by3 k l (λ e. rw e) (λ e. rw e) (λ e. rw e)

  origin_corner : (q : ℕ) → q < length ts → from (triangles_from n (refs n ts ws A) ws) q ≡ from ts (origin q)
  unfolding origin triangles_from
  origin_corner q l =
      let i : ℕ = q / 3 in
      let li = begins_in q l in
      let k = place_no_is i li in
      let b = beginning_is i li in
      let s : q ≡ 3 * count written (place_no i) + q % 3 = (let c = k.2 in omega arith) in
      ap (at (gather (written_at (refs n ts ws A) ws) (6 * n))) s ∙
      chunk_at (written_at (refs n ts ws A) ws) written (written_length (refs n ts ws A) ws) (6 * n) (place_no i) (q % 3) k.0 k.1 (omega arith) ∙
      ap (λ x. at (written_at (refs n ts ws A) ws x) (q % 3)) (sym b.1) ∙
      ap (λ xs. at xs (q % 3)) (written_is n ts ws A (beginning i) b.0 b.2) ∙
      corner_no (beginning i) (q % 3) (omega arith)

  pub table_length : length (triangles_from n (refs n ts ws A) ws) ≡ triangles_length n
  unfolding triangles_from
  table_length =
      let a = chunks_length (written_at (refs n ts ws A) ws) written (written_length (refs n ts ws A) ws) (6 * n) in
      let b = as_many in
      let c = enough n ts ws A in
      omega arith

  pub table_permuted : Permuted ts (triangles_from n (refs n ts ws A) ws) origin
  table_permuted = record {
    same_length = table_length ∙ sym (triangles_length_holds n ts ws A);
    within = origin_in;
    corner_is = origin_corner;
    turned = origin_next;
    injective = origin_inj;
  }
