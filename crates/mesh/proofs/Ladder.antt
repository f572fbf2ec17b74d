-- What a ladder says, by induction on its rungs: it gives 0 exactly where no fault applies, and number k exactly where k's fault
-- applies and none before it. For this its numbers are above 0 and all different (`proper`, a test that computes).
use Prim.Native.Nat.{ℕ, ◌≤◌}
use mathlib.Core.Path.{◌≡◌, refl, sym, ◌∙◌, subst}
use mathlib.Core.List.{List, [], ◌∷◌, ◌++◌}
use mathlib.Core.Bool.{Bool, true, false, not, ◌&&◌, ◌||◌}
use mathlib.Core.Logic.{◌≢◌}
use lib.Dec.{leb, eqb}
use borrow.Author.Tests.{leb-true, eqb-true, eqb-false, eq-eqb, not-true}
use Rattle.mesh.specs.Ladder.{Rung, rung, first_of, applies, numbers, NoneApplies, end, past, NoneBefore, here, past_one}
use Rattle.mesh.proofs.Tests.{by_bool, clash, and_true, and_of, or_true, or_left, or_right}

-- the top rung, where its fault applies and where it does not
module _ (k : ℕ) (fault : Bool) (rest : List Rung) where
  pub stands : fault ≡ true → first_of (rung k fault ∷ rest) ≡ k
  unfolding first_of
  stands e = rw e

  pub falls : fault ≡ false → first_of (rung k fault ∷ rest) ≡ first_of rest
  unfolding first_of
  falls e = rw e

-- where none applies the ladder gives 0, and no number applies
pub none_first : {l : List Rung} → NoneApplies l → first_of l ≡ 0
unfolding first_of
none_first end = refl
none_first (past {k} {fault} {rest} e h) = falls k fault rest e ∙ none_first h

pub free : {l : List Rung} → NoneApplies l → (k : ℕ) → applies k l ≡ false
free end k = refl
free (past {k = m} {fault} {rest} e h) k = by_bool (eqb m k) (λ t. rw (t, e)) (λ t. rw t (free h k))

-- one ladder on top of another
pub none_both : {l m : List Rung} → NoneApplies l → NoneApplies m → NoneApplies (l ++ m)
none_both end h = h
none_both (past e g) h = past e (none_both g h)

pub none_parts : (l m : List Rung) → NoneApplies (l ++ m) → NoneApplies l × NoneApplies m
none_parts [] m h = (end, h)
none_parts (rung k fault ∷ l) m (past e h) = let r = none_parts l m h in (past e r.0, r.1)

pub none_then : {l : List Rung} (m : List Rung) → NoneApplies l → first_of (l ++ m) ≡ first_of m
none_then m end = refl
none_then m (past {k} {fault} {rest} e h) = falls k fault (rest ++ m) e ∙ none_then m h

pub some_then : (l m : List Rung) → first_of l ≢ 0 → first_of (l ++ m) ≡ first_of l
unfolding first_of
some_then [] m h = absurd (h refl)
some_then (rung k fault ∷ l) m h = by_bool fault (λ t. rw t) (λ t. rw t (some_then l m (rw t at h)))

-- the numbers are above 0 and different
unfoldable pub among : ℕ → List ℕ → Bool
among k [] = false
among k (m ∷ ms) = eqb m k || among k ms

unfoldable pub proper : List ℕ → Bool
proper [] = true
proper (k ∷ ks) = not (eqb k 0) && (not (among k ks) && proper ks)

proper_top : (k : ℕ) (ks : List ℕ) → proper (k ∷ ks) ≡ true → (k ≢ 0) × (among k ks ≡ false) × (proper ks ≡ true)
unfolding proper
proper_top k ks e =
    let a = and_true (not (eqb k 0)) (not (among k ks) && proper ks) e in
    let b = and_true (not (among k ks)) (proper ks) a.1 in
    (eqb-false k 0 (not-true (eqb k 0) a.0), not-true (among k ks) b.0, b.1)

applies_among : (k : ℕ) (l : List Rung) → applies k l ≡ true → among k (numbers l) ≡ true
unfolding among
applies_among k [] e = e
applies_among k (rung m fault ∷ l) e =
    by_bool (eqb m k) (λ t. or_left (eqb m k) (among k (numbers l)) t)
    (λ t. or_right (eqb m k) (among k (numbers l)) (applies_among k l (rw t at e)))

-- 0 is only given where none applies
pub first_none : (l : List Rung) → proper (numbers l) ≡ true → first_of l ≡ 0 → NoneApplies l
unfolding first_of
first_none [] p e = end
first_none (rung k fault ∷ l) p e =
    let q = proper_top k (numbers l) p in
    by_bool fault (λ t. absurd (q.0 (rw t at e))) (λ t. past t (first_none l q.2 (rw t at e)))

-- k is given where its fault applies and none before it, and only there
pub number_first : {k : ℕ} {l : List Rung} → NoneBefore k l → applies k l ≡ true → first_of l ≡ k
number_first {k} (here {fault} {rest}) e = stands k fault rest (rw (eq-eqb k k refl) at e)
number_first {k} (past_one {m} {fault} {rest} f h) e =
    falls m fault rest f ∙
    by_bool (eqb m k) (λ t. clash fault (rw t at e) f) (λ t. number_first h (rw t at e))

pub first_number : (k : ℕ) (l : List Rung) → proper (numbers l) ≡ true → k ≢ 0 → first_of l ≡ k → (applies k l ≡ true) × NoneBefore k l
unfolding first_of
first_number k [] p z e = absurd (z (sym e))
first_number k (rung m fault ∷ l) p z e =
    let q = proper_top m (numbers l) p in
    by_bool fault
    (λ t.
    let same : m ≡ k = rw t at e in
    (rw (eq-eqb m k same) t, subst (λ x. NoneBefore k (rung x fault ∷ l)) (sym same) here))
    (λ t.
    let r = first_number k l q.2 z (rw t at e) in
    let other : eqb m k ≡ false =
    by_bool (eqb m k)
    (λ u. clash (among k (numbers l)) (applies_among k l r.0) (subst (λ x. among x (numbers l) ≡ false) (eqb-true m k u) q.1)) (λ u. u) in
    (rw other r.0, past_one t r.1))

-- nothing is given but 0 and the ladder's numbers
pub first_among : (l : List Rung) → first_of l ≢ 0 → among (first_of l) (numbers l) ≡ true
unfolding first_of among
first_among [] z = absurd (z refl)
first_among (rung k fault ∷ l) z =
    by_bool fault
    (λ t. subst (λ x. (eqb k x || among x (numbers l)) ≡ true) (sym (stands k fault l t))
    (or_left (eqb k k) (among k (numbers l)) (eq-eqb k k refl)))
    (λ t. subst (λ x. (eqb k x || among x (numbers l)) ≡ true) (sym (falls k fault l t))
    (or_right (eqb k (first_of l)) (among (first_of l) (numbers l)) (first_among l (λ e. z (falls k fault l t ∙ e)))))

-- where each number is m or more, so is the one given
unfoldable pub above : ℕ → List ℕ → Bool
above m [] = true
above m (k ∷ ks) = leb m k && above m ks

pub first_above : (m : ℕ) (l : List Rung) → above m (numbers l) ≡ true → first_of l ≢ 0 → m ≤ first_of l
unfolding first_of above
first_above m [] a z = absurd (z refl)
first_above m (rung k fault ∷ l) a z =
    let b = and_true (leb m k) (above m (numbers l)) a in
    by_bool fault (λ t. rw t (leb-true m k b.0)) (λ t. rw t (first_above m l b.1 (rw t at z)))

-- number i stands before number k
unfoldable pub earlier : ℕ → ℕ → List ℕ → Bool
earlier i k [] = false
earlier i k (m ∷ ms) = not (eqb m k) && (eqb m i || earlier i k ms)

-- where none before k applies, no number that stands before it does
pub free_before : {k : ℕ} {l : List Rung} → NoneBefore k l → (i : ℕ) → earlier i k (numbers l) ≡ true → applies i l ≡ false
unfolding earlier
free_before {k} (here {fault} {rest}) i e =
    clash (not (eqb k k)) (and_true (not (eqb k k)) (eqb k i || earlier i k (numbers rest)) e).0 (rw (eq-eqb k k refl))
free_before {k} (past_one {m} {fault} {rest} f h) i e =
    let t = (and_true (not (eqb m k)) (eqb m i || earlier i k (numbers rest)) e).1 in
    by_bool (eqb m i) (λ u. rw (u, f)) (λ u. rw u (free_before h i (rw u at t)))

-- what stands before a number that stands before k stands before k
pub earlier_through : (i j k : ℕ) (ms : List ℕ) → earlier i j ms ≡ true → earlier j k ms ≡ true → earlier i k ms ≡ true
unfolding earlier
earlier_through i j k [] a b = a
earlier_through i j k (m ∷ ms) a b =
    let p = and_true (not (eqb m j)) (eqb m i || earlier i j ms) a in
    let q = and_true (not (eqb m k)) (eqb m j || earlier j k ms) b in
    let j_later : earlier j k ms ≡ true = rw (not-true (eqb m j) p.0) at q.1 in
    and_of (not (eqb m k)) (eqb m i || earlier i k ms) q.0
    (or_true (eqb m i) (earlier i j ms) p.1 (λ t. or_left (eqb m i) (earlier i k ms) t)
    (λ t. or_right (eqb m i) (earlier i k ms) (earlier_through i j k ms t j_later)))
