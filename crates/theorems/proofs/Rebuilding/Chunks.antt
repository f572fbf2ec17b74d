-- A list gathered from chunks, each of three numbers or of none: it has three numbers for each place that writes, and what a place
-- writes stands at three times the number of places below it that write. By induction on the places.
use Prim.Native.Nat.{ℕ, zero, suc, ◌+◌, ◌*◌, ◌≤◌, ◌<◌}
use mathlib.Core.Path.{◌≡◌, sym, ap, ◌∙◌}
use mathlib.Core.List.{List, ◌++◌}
use mathlib.Core.Bool.{Bool, true, cond}
use mathlib.Core.Logic.{◌≢◌}
use native.Mathlib.Omega.{arith}
use native.Mathlib.Numerals.{add-one}
use lib.ListN.{length, length-append, get_or-append}
use lib.Seq.{get_or-append-add}
use lib.Dec.{ltb, eqb}
use borrow.Author.Tests.{ltb-true, ltb-false, eqb-true, eqb-false}
use Rattle.mesh.specs.Search.{count, gather}
use Rattle.mesh.specs.Limits.{at, unused_mark}
use Rattle.mesh.proofs.Tests.{by_bool}
use Rattle.mesh.proofs.Count.{count_lt}
use Rattle.mesh.proofs.Lists.{gather_none, gather_more}

-- the place at which so many before it have passed
pub nth : (p : ℕ → Bool) (m i : ℕ) → i < count p m → (k : ℕ) × (k < m) × (p k ≡ true) × (count p k ≡ i)
unfolding count
nth p zero i l = absurd (omega arith)
nth p (suc m) i l =
    by_bool (ltb i (count p m))
    (λ u. let r = nth p m i (ltb-true i (count p m) u) in let h = r.1 in (r.0, omega arith, r.2, r.3))
    (λ u.
    let g : count p m ≤ i = ltb-false i (count p m) u in
    by_bool (p m) (λ t. let h : i < count p m + 1 = rw t at l in (m, omega arith, t, omega arith))
    (λ t. let h : i < count p m + 0 = rw t at l in absurd (omega arith)))

module _ (f : ℕ → List ℕ) (writes : ℕ → Bool) (three : (i : ℕ) → length (f i) ≡ cond (writes i) 3 0) where
  gather_suc : (m : ℕ) → gather f (suc m) ≡ gather f m ++ f m
  gather_suc m = ap (gather f) (sym (add-one m)) ∙ gather_more f m

  pub chunks_length : (m : ℕ) → length (gather f m) ≡ 3 * count writes m
  unfolding count
  chunks_length zero = ap length (gather_none f)
  chunks_length (suc m) =
      let h = chunks_length m in
      let a : length (gather f (suc m)) ≡ length (gather f m) + length (f m) = ap length (gather_suc m) ∙ length-append (gather f m) (f m) in
      let t = three m in
      by_bool (writes m) (λ s. let u : length (f m) ≡ 3 = t ∙ rw s in rw s (omega arith))
      (λ s. let u : length (f m) ≡ 0 = t ∙ rw s in rw s (omega arith))

  pub chunk_at : (m i k : ℕ) → i < m → writes i ≡ true → k < 3 → at (gather f m) (3 * count writes i + k) ≡ at (f i) k
  chunk_at zero i k l t g = absurd (omega arith)
  chunk_at (suc m) i k l t g =
      ap (λ xs. at xs (3 * count writes i + k)) (gather_suc m) ∙
      by_bool (eqb i m)
      (λ u.
      let e : i ≡ m = eqb-true i m u in
      ap (λ x. at (gather f m ++ f m) (x + k)) (ap (λ x. 3 * count writes x) e ∙ sym (chunks_length m)) ∙
      get_or-append-add (gather f m) (f m) k unused_mark ∙ ap (λ x. at (f x) k) (sym e))
      (λ u.
      let n : i ≢ m = eqb-false i m u in
      get_or-append (gather f m) (f m) unused_mark (3 * count writes i + k)
      (rw (chunks_length m) (omega (arith, count_lt writes m i (omega arith) t))) ∙
      chunk_at m i k (omega arith) t g)
