-- The search's laws. `First p m r` says what r is, without computing it: at most m, a hit where it is below m, and no hit before.
-- Two such numbers are equal, so a loop that returns the first hit returns `first p m`. "Some" and "every" are read off it.
use Prim.Native.Nat.{ℕ, zero, suc, ◌+◌, ◌≤◌, ◌<◌}
use mathlib.Core.Path.{◌≡◌, refl, sym, ap, subst, ◌∙◌}
use mathlib.Core.Bool.{Bool, true, false, cond, not}
use mathlib.Core.Logic.{◌≢◌}
use native.Mathlib.Omega.{arith}
use lib.Dec.{ltb, eqb}
use borrow.Author.Tests.{ltb-true, ltb-false, leb-true, leb-false, le-leb, eqb-true, eqb-false, lt-ltb, le-ltb, not-true, not-false}
use Rattle.std.specs.declared.option.Option.TheVariants.{Some, None}
use Rattle.std.specs.Option.{is_some}
use Rattle.mesh.specs.Search.{first_from, first, lowest, some, every}
use Rattle.mesh.proofs.Tests.{by_bool, clash, by_order}

pub record First (p : ℕ → Bool) (m r : ℕ) : Type 0 where
  pub bound : r ≤ m
  pub hit : r < m → p r ≡ true
  pub low : (k : ℕ) → k < r → p k ≡ false

first_from_law : (p : ℕ → Bool) (k f m : ℕ) → k + f ≡ m → ((j : ℕ) → j < k → p j ≡ false) → First p m (first_from p k f)
unfolding first_from
first_from_law p k zero m e h = record { bound = omega arith; hit = λ l. absurd (omega arith); low = h }
first_from_law p k (suc f) m e h =
    by_bool (p k) (λ t. rw t (record { bound = omega arith; hit = λ l. t; low = h }))
    (λ t. rw t (first_from_law p (suc k) f m (omega arith)
    (λ j l. by_bool (eqb j k) (λ q. rw (eqb-true j k q) t) (λ q. let n : j ≢ k = eqb-false j k q in h j (omega arith)))))

pub first_law : (p : ℕ → Bool) (m : ℕ) → First p m (first p m)
unfolding first
first_law p m = first_from_law p 0 m m (omega arith) (λ j l. absurd (omega arith))

pub First-unique : (p : ℕ → Bool) (m r s : ℕ) → First p m r → First p m s → r ≡ s
First-unique p m r s a b =
    by_order r s (λ l. clash (p r) (a.hit (omega (arith, b.bound))) (b.low r l)) (λ e. e)
    (λ l. clash (p s) (b.hit (omega (arith, a.bound))) (a.low s l))

pub first_eq : (p : ℕ → Bool) (m r : ℕ) → First p m r → first p m ≡ r
first_eq p m r a = First-unique p m (first p m) r (first_law p m) a

-- a loop's two ends: it returns r at the first hit, and m where it met none
pub first_at : (p : ℕ → Bool) (m r : ℕ) → r < m → p r ≡ true → ((k : ℕ) → k < r → p k ≡ false) → first p m ≡ r
first_at p m r l t h = first_eq p m r (record { bound = omega arith; hit = λ _. t; low = h })

pub first_none : (p : ℕ → Bool) (m : ℕ) → ((k : ℕ) → k < m → p k ≡ false) → first p m ≡ m
first_none p m h = first_eq p m m (record { bound = omega arith; hit = λ l. absurd (omega arith); low = h })

pub first_bound : (p : ℕ → Bool) (m : ℕ) → first p m ≤ m
first_bound p m = (first_law p m).bound

pub first_hit : (p : ℕ → Bool) (m : ℕ) → first p m < m → p (first p m) ≡ true
first_hit p m l = (first_law p m).hit l

pub first_low : (p : ℕ → Bool) (m k : ℕ) → k < first p m → p k ≡ false
first_low p m k l = (first_law p m).low k l

-- a hit below m makes the search succeed, at or before it
pub first_le : (p : ℕ → Bool) (m k : ℕ) → k < m → p k ≡ true → first p m ≤ k
first_le p m k l t =
    by_bool (ltb k (first p m)) (λ u. clash (p k) t ((first_law p m).low k (ltb-true k (first p m) u))) (λ u. ltb-false k (first p m) u)

-- the only hit
pub first_only : (p : ℕ → Bool) (m r : ℕ) → r < m → p r ≡ true → ((k : ℕ) → k < m → p k ≡ true → k ≡ r) → first p m ≡ r
first_only p m r l t h =
    first_at p m r l t
    (λ k g. by_bool (p k) (λ e. let q : k ≡ r = h k (omega arith) e in absurd (omega arith)) (λ e. e))

pub first_cong : (p q : ℕ → Bool) (m : ℕ) → ((k : ℕ) → k < m → p k ≡ q k) → first p m ≡ first q m
first_cong p q m h =
    let f = first_law q m in
    first_eq p m (first q m)
    (record {
      bound = f.bound;
      hit = λ l. h (first q m) l ∙ f.hit l;
      low = λ k l. h k (omega (arith, f.bound)) ∙ f.low k l;
    })

-- some
pub some_at : (p : ℕ → Bool) (m : ℕ) → some p m ≡ true → (k : ℕ) × (k < m) × (p k ≡ true)
unfolding some
some_at p m e = let l : first p m < m = ltb-true (first p m) m e in (first p m, l, (first_law p m).hit l)

pub some_of : (p : ℕ → Bool) (m k : ℕ) → k < m → p k ≡ true → some p m ≡ true
unfolding some
some_of p m k l t = lt-ltb (first p m) m (omega (arith, first_le p m k l t))

pub some_none : (p : ℕ → Bool) (m : ℕ) → some p m ≡ false → (k : ℕ) → k < m → p k ≡ false
unfolding some
some_none p m e k l = (first_law p m).low k (omega (arith, ltb-false (first p m) m e))

pub none_some : (p : ℕ → Bool) (m : ℕ) → ((k : ℕ) → k < m → p k ≡ false) → some p m ≡ false
unfolding some
none_some p m h = le-ltb (first p m) m (omega (arith, first_none p m h))

pub some_cong : (p q : ℕ → Bool) (m : ℕ) → ((k : ℕ) → k < m → p k ≡ q k) → some p m ≡ some q m
unfolding some
some_cong p q m h = ap (λ r. ltb r m) (first_cong p q m h)

-- whether there is one is whether the first one is below the bound: for a loop that returns the place
pub some_is : (p : ℕ → Bool) (m : ℕ) → some p m ≡ ltb (first p m) m
unfolding some
some_is p m = refl

-- the lowest one, where there is one
pub lowest_at : (p : ℕ → Bool) (m r : ℕ) → r < m → p r ≡ true → ((k : ℕ) → k < r → p k ≡ false) → lowest p m ≡ Some r
unfolding lowest
lowest_at p m r l t h = let e = first_at p m r l t h in rw (e, lt-ltb r m l) refl

pub lowest_none : (p : ℕ → Bool) (m : ℕ) → ((k : ℕ) → k < m → p k ≡ false) → lowest p m ≡ None
unfolding lowest
lowest_none p m h = let e = first_none p m h in rw (e, le-ltb m m (omega arith)) refl

pub lowest_some : (p : ℕ → Bool) (m : ℕ) → is_some (lowest p m) ≡ some p m
unfolding lowest some
lowest_some p m = by_bool (ltb (first p m) m) (λ t. rw t refl) (λ t. rw t refl)

-- what was found is the first, and is below the bound
pub lowest_found : (p : ℕ → Bool) (m r : ℕ) → lowest p m ≡ Some r → (r ≡ first p m) × (r < m)
unfolding lowest
lowest_found p m r e =
    by_bool (ltb (first p m) m) (λ t. let f : cond true (Some (first p m)) None ≡ Some r = subst (λ b. cond b (Some (first p m)) None ≡ Some r) t e in let g : r ≡ first p m = cc in (g, omega (arith, ltb-true (first p m) m t)))
    (λ t. let f : cond false (Some (first p m)) None ≡ Some r = subst (λ b. cond b (Some (first p m)) None ≡ Some r) t e in clash (is_some (Some r)) refl (ap is_some (sym f)))

pub lowest_found_none : (p : ℕ → Bool) (m : ℕ) → lowest p m ≡ None → (k : ℕ) → k < m → p k ≡ false
lowest_found_none p m e = some_none p m (sym (lowest_some p m) ∙ ap is_some e)

-- every
pub every_at : (p : ℕ → Bool) (m : ℕ) → every p m ≡ true → (k : ℕ) → k < m → p k ≡ true
unfolding every
every_at p m e k l =
    not-false (p k) ((first_law (λ k. not (p k)) m).low k (omega (arith, leb-true m (first (λ k. not (p k)) m) e)))

pub every_of : (p : ℕ → Bool) (m : ℕ) → ((k : ℕ) → k < m → p k ≡ true) → every p m ≡ true
unfolding every
every_of p m h = le-leb m (first (λ k. not (p k)) m) (omega (arith, first_none (λ k. not (p k)) m (λ k l. rw (h k l))))

pub every_fails : (p : ℕ → Bool) (m : ℕ) → every p m ≡ false → (k : ℕ) × (k < m) × (p k ≡ false)
unfolding every
every_fails p m e =
    let k : ℕ = first (λ k. not (p k)) m in
    let l : k < m = leb-false m k e in
    (k, l, not-true (p k) ((first_law (λ k. not (p k)) m).hit l))
