-- What `any`, `all` and `find` over a range of numbers answer, in the words of the search (specs/Search): a range may begin behind
-- numbers that are known to fail. Each law takes what the call did (its clause `ran`), how the range was made, and what the closure
-- computes.
use Prim.Native.Nat.{ℕ, zero, suc, ◌+◌, ◌-◌, ◌≤◌, ◌<◌}
use mathlib.Core.Path.{◌≡◌, refl, sym, subst, ◌∙◌}
use mathlib.Core.Bool.{Bool, true, false}
use mathlib.Core.List.{List}
use native.Mathlib.Omega.{arith}
use lib.Dec.{leb}
use borrow.Author.Tests.{leb-true, leb-false}
use denote.Param.Members.{Mut}
use denote.Ref.{Bor}
use Rattle.std.proofs.iter.Yields.{nat_range_steps}
use Rattle.std.specs.Bool.{⊤}
use Rattle.std.specs.Fn.{Called, CalledAt}
use Rattle.std.specs.Iterator.{YieldsThen}
use Rattle.std.specs.List.{FoldsTo, range_with_len, list_any, list_all}
use Rattle.std.specs.Option.{MatchOption}
use Rattle.std.specs.declared.option.Option.{Option}
use Rattle.std.specs.declared.option.Option.TheVariants.{Some, None}
use Rattle.std.specs.declared.ops.Range.{Range}
use Rattle.std.proofs.lemmas.Iterator.{YieldsList-from_range, first_from_Range}
use Rattle.std.proofs.lemmas.Iterator.Search.{any_from_yields_List, all_from_yields_List}
use Rattle.mesh.specs.Search.{lowest, some, every}
use Rattle.mesh.proofs.Search.{lowest_at, lowest_none, some_at, some_none, every_at, every_fails}
use Rattle.mesh.proofs.Tests.{by_bool, clash, by_order}

-- numbers in a row: whether some of them passes
row_none : (p : ℕ → Bool) (k m : ℕ) → ((j : ℕ) → k ≤ j → j < k + m → p j ≡ false) → list_any p (range_with_len k m) ≡ false
row_none p k zero h = refl
row_none p k (suc m) h =
    rw (h k (omega arith) (omega arith)) (row_none p (k + 1) m (λ j l u. h j (omega arith) (omega arith)))

row_some : (p : ℕ → Bool) (k m j : ℕ) → k ≤ j → j < k + m → p j ≡ true → list_any p (range_with_len k m) ≡ true
row_some p k zero j l u t = absurd (omega arith)
row_some p k (suc m) j l u t =
    by_bool (p k) (λ e. rw e refl)
    (λ e. rw e (row_some p (k + 1) m j (by_order k j (λ o. omega arith) (λ o. clash (p j) t (subst (λ x. p x ≡ false) o e)) (λ o. absurd (omega arith))) (omega arith) t))

module _ (p : ℕ → Bool) (a b : ℕ) (h : (k : ℕ) → k < a → p k ≡ false) where
  any_range : list_any p (range_with_len a (b - a)) ≡ some p b
  any_range =
      by_bool (some p b)
      (λ t.
      let s = some_at p b t in
      let l : a ≤ s.0 = by_bool (leb a s.0) (λ u. leb-true a s.0 u) (λ u. clash (p s.0) s.2 (h s.0 (leb-false a s.0 u))) in
      row_some p a (b - a) s.0 l (omega (arith, s.1)) s.2 ∙ sym t)
      (λ t. row_none p a (b - a) (λ j l u. some_none p b t j (omega arith)) ∙ sym t)

  -- `any`
  pub some_from_any : {F : Type 0} {g : Mut F (ℕ × Unit {0}) Bool} {s : Range ℕ} (u : Range ℕ) (f : F) (r : Bool)
      → (xs : List ℕ) × (o : Option ℕ) × (j : F) × YieldsThen nat_range_steps s xs o u × FoldsTo (λ q x w. Called g q (x, tt) false w) f xs j × MatchOption o (r ≡ false) (λ x. (r ≡ true) × ((w : F) × Called g j (x, tt) true w))
      → s ≡ record { start = a; end = b } → ((x : ℕ) (c : Bool) (q : F) → Called g f (x, tt) c q → (q ≡ f) × (c ≡ p x)) → r ≡ some p b
  some_from_any u f r ran e k = any_from_yields_List p u f r ran (YieldsList-from_range a b (b - a) e refl) k ∙ any_range

  -- `find`
  pub lowest_from_find : {F : Type 0} {g : Mut F (Bor ℕ × Unit {0}) Bool} {s : Range ℕ} (u : Range ℕ) (f : F) (r : Option ℕ)
      → (xs : List ℕ) × (j : F) × YieldsThen nat_range_steps s xs r u × FoldsTo (λ q x w. CalledAt g q x false w) f xs j × MatchOption r ⊤ (λ x. (w : F) × CalledAt g j x true w)
      → s ≡ record { start = a; end = b } → ((x : ℕ) (c : Bool) (q : F) → CalledAt g f x c q → (q ≡ f) × (c ≡ p x)) → r ≡ lowest p b
  lowest_from_find {F} {g} {s} u f r ran e k =
      found r
      (subst (λ (w : Range ℕ). MatchOption r ((i : ℕ) → w.start ≤ i → i < w.end → p i ≡ false) (λ x. (w.start ≤ x) × (x < w.end) × (p x ≡ true) × ((i : ℕ) → w.start ≤ i → i < x → p i ≡ false))) e
      (first_from_Range s u f r (λ x. p x ≡ true) (λ x. p x ≡ false) ran (λ x q c. sym (k x true q c).1) (λ x q c. ((k x false q c).0, sym (k x false q c).1))))
    where
      behind : (m : ℕ) → ((i : ℕ) → a ≤ i → i < m → p i ≡ false) → (i : ℕ) → i < m → p i ≡ false
      behind m w i v = by_bool (leb a i) (λ t. w i (leb-true a i t) v) (λ t. h i (leb-false a i t))

      found : (r : Option ℕ) → MatchOption r ((i : ℕ) → a ≤ i → i < b → p i ≡ false) (λ x. (a ≤ x) × (x < b) × (p x ≡ true) × ((i : ℕ) → a ≤ i → i < x → p i ≡ false)) → r ≡ lowest p b
      found None w = sym (lowest_none p b (behind b w))
      found (Some x) w = sym (lowest_at p b x w.1 w.2 (behind x w.3))

-- the same where each has to pass
all_row : (p : ℕ → Bool) (k m : ℕ) → ((j : ℕ) → k ≤ j → j < k + m → p j ≡ true) → list_all p (range_with_len k m) ≡ true
all_row p k zero h = refl
all_row p k (suc m) h =
    rw (h k (omega arith) (omega arith)) (all_row p (k + 1) m (λ j l u. h j (omega arith) (omega arith)))

fails_row : (p : ℕ → Bool) (k m j : ℕ) → k ≤ j → j < k + m → p j ≡ false → list_all p (range_with_len k m) ≡ false
fails_row p k zero j l u t = absurd (omega arith)
fails_row p k (suc m) j l u t =
    by_bool (p k)
    (λ e. rw e (fails_row p (k + 1) m j (by_order k j (λ o. omega arith) (λ o. clash (p j) (subst (λ x. p x ≡ true) o e) t) (λ o. absurd (omega arith))) (omega arith) t))
    (λ e. rw e refl)

module _ (p : ℕ → Bool) (a b : ℕ) (h : (k : ℕ) → k < a → p k ≡ true) where
  all_range : list_all p (range_with_len a (b - a)) ≡ every p b
  all_range =
      by_bool (every p b)
      (λ t. all_row p a (b - a) (λ j l u. every_at p b t j (omega arith)) ∙ sym t)
      (λ t.
      let s = every_fails p b t in
      let l : a ≤ s.0 = by_bool (leb a s.0) (λ u. leb-true a s.0 u) (λ u. clash (p s.0) (h s.0 (leb-false a s.0 u)) s.2) in
      fails_row p a (b - a) s.0 l (omega (arith, s.1)) s.2 ∙ sym t)

  -- `all`
  pub every_from_all : {F : Type 0} {g : Mut F (ℕ × Unit {0}) Bool} {s : Range ℕ} (u : Range ℕ) (f : F) (r : Bool)
      → (xs : List ℕ) × (o : Option ℕ) × (j : F) × YieldsThen nat_range_steps s xs o u × FoldsTo (λ q x w. Called g q (x, tt) true w) f xs j × MatchOption o (r ≡ true) (λ x. (r ≡ false) × ((w : F) × Called g j (x, tt) false w))
      → s ≡ record { start = a; end = b } → ((x : ℕ) (c : Bool) (q : F) → Called g f (x, tt) c q → (q ≡ f) × (c ≡ p x)) → r ≡ every p b
  every_from_all u f r ran e k = all_from_yields_List p u f r ran (YieldsList-from_range a b (b - a) e refl) k ∙ all_range
