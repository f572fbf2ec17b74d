-- Counting the sides that leave each vertex, one side after the other.
use Prim.Native.Nat.{ℕ, zero, suc, ◌+◌, ◌≤◌, ◌<◌}
use mathlib.Core.Path.{◌≡◌, sym, ap, ◌∙◌}
use mathlib.Core.List.{List}
use mathlib.Core.Bool.{Bool, true, false}
use mathlib.Core.Logic.{◌≢◌}
use native.Mathlib.Omega.{arith}
use native.Mathlib.Numerals.{add-one}
use lib.ListN.{length, set, replicate, length-set, length-replicate, get_or-replicate}
use lib.Seq.{get_or-set_same, get_or-set_other}
use lib.Dec.{eqb}
use borrow.Author.Tests.{eqb-true, eqb-false, eq-eqb, ne_eqb}
use Rattle.mesh.specs.Search.{count}
use Rattle.mesh.specs.Sides.{from}
use Rattle.mesh.specs.Paired.{Paired}
use Rattle.mesh.proofs.Tests.{by_bool}
use Rattle.triangles.specs.declared.round.Spokes.{Spokes}
use Rattle.triangles.specs.Turns.{is_from, spokes_at, Tally, Untallied}

count_hit : (p : ℕ → Bool) (m : ℕ) → p m ≡ true → count p (m + 1) ≡ count p m + 1
unfolding count
count_hit p m t = rw (add-one m, t)

count_miss : (p : ℕ → Bool) (m : ℕ) → p m ≡ false → count p (m + 1) ≡ count p m
unfolding count
count_miss p m t = rw (add-one m, t) (omega arith)

count_bound : (p : ℕ → Bool) (m : ℕ) → count p m ≤ m
unfolding count
count_bound p zero = omega arith
count_bound p (suc m) =
    by_bool (p m) (λ t. rw t (omega (arith, count_bound p m))) (λ t. rw t (omega (arith, count_bound p m)))

-- before the count, with a place for each vertex
pub untallied : (n k : ℕ) (none : Spokes) (ts : List ℕ) → none.degree ≡ 0 → Paired n ts → n ≤ k → Untallied ts (replicate k none)
untallied n k none ts z P l = record {
  room = λ p h. let a = P.corner p h in let b = length-replicate k none in omega arith;
  none_yet = λ v h. ap (λ (s : Spokes). s.degree) (get_or-replicate k v none _ (omega (arith, length-replicate k none))) ∙ z;
}

pub tally_none : (ts : List ℕ) (spokes : List Spokes) → Untallied ts spokes → Tally ts 0 spokes
unfolding count
tally_none ts spokes u = record { counted = u.none_yet; start = λ v l g. absurd (omega arith) }

module _ (ts : List ℕ) (spokes : List Spokes) (m v : ℕ) (h : Tally ts m spokes) (e : v ≡ from ts m) (l : v < length spokes) where
  -- no count is above the number of sides passed
  pub tally_small : (spokes_at spokes v).degree ≤ m
  tally_small = let a = h.counted v l in let b = count_bound (is_from ts v) m in omega arith

  module _ (next : Spokes) (now : next ≡ record { start = m; degree = (spokes_at spokes v).degree + 1 }) where
    here : spokes_at (set spokes v next) v ≡ record { start = m; degree = (spokes_at spokes v).degree + 1 }
    here = get_or-set_same spokes v next _ l ∙ now

    pub tally_more : Tally ts (m + 1) (set spokes v next)
    tally_more = record {
      counted = λ u g. by_bool (eqb u v)
          (λ t.
          let s : u ≡ v = eqb-true u v t in
          ap (λ (x : ℕ). (spokes_at (set spokes v next) x).degree) s ∙ ap (λ (x : Spokes). x.degree) here ∙
          ap (λ (x : ℕ). x + 1) (h.counted v l) ∙ sym (count_hit (is_from ts v) m (eq-eqb (from ts m) v (sym e))) ∙
          ap (λ (x : ℕ). count (is_from ts x) (m + 1)) (sym s))
          (λ t.
          let d : u ≢ v = eqb-false u v t in
          ap (λ (x : Spokes). x.degree) (get_or-set_other spokes v u next _ d) ∙
          h.counted u (omega (arith, length-set spokes v next)) ∙
          sym (count_miss (is_from ts u) m (ne_eqb (from ts m) u (λ z. d (sym (e ∙ z))))));
      start = λ u g k. by_bool (eqb u v)
          (λ t.
          let s : u ≡ v = eqb-true u v t in
          let z : (spokes_at (set spokes v next) u).start ≡ m = ap (λ (x : ℕ). (spokes_at (set spokes v next) x).start) s ∙ ap (λ (x : Spokes). x.start) here in
          (omega arith, ap (from ts) z ∙ sym e ∙ sym s))
          (λ t.
          let d : u ≢ v = eqb-false u v t in
          let z : (spokes_at (set spokes v next) u).start ≡ (spokes_at spokes u).start = ap (λ (x : Spokes). x.start) (get_or-set_other spokes v u next _ d) in
          let c = count_miss (is_from ts u) m (ne_eqb (from ts m) u (λ y. d (sym (e ∙ y)))) in
          let w = h.start u (omega (arith, length-set spokes v next)) (omega arith) in
          let lw : (spokes_at spokes u).start < m = w.0 in
          (omega arith, ap (from ts) z ∙ w.1));
    }
