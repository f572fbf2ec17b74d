-- The turn rule as a law of neighbours. `Step a b` says which label b may come right after a round a vertex: after out c comes
-- into c+2 or out c+1, after into c comes into c or out c+2. Labels that keep the turn rule are a chain of such steps that closes,
-- and a chain in which out 0 does not come again keeps the rule.
use Prim.Native.Nat.{ℕ, zero, suc, ◌+◌, ◌%◌, ◌≤◌, ◌<◌}
use mathlib.Core.Path.{◌≡◌, refl, sym, ap, subst, ◌∙◌}
use mathlib.Core.List.{List, [], ◌∷◌}
use mathlib.Core.Bool.{true, false, ◌&&◌}
use native.Mathlib.Omega.{arith}
use native.Mathlib.Nat.{add-zero, zero-add}
use lib.Dec.{ltb, eqb}
use borrow.Author.Tests.{ltb-true, eqb-true, lt-ltb, eq-eqb}
use Rattle.mesh.specs.Search.{tabulate_from, tabulate}
use Rattle.mesh.specs.Wood.{Label, out, into, bare, turn_rule}
use Rattle.mesh.proofs.Tests.{clash, and_true}

pub by_label {ℓ} : {A : Type ℓ} (l : Label) → ((c : ℕ) → l ≡ out c → A) → ((c : ℕ) → l ≡ into c → A) → (l ≡ bare → A) → A
by_label (out c) f g h = f c refl
by_label (into c) f g h = g c refl
by_label bare f g h = h refl

abbrev pub Step : Label → Label → Type 0
Step (out c) (out d) = d ≡ (c + 1) % 3
Step (out c) (into d) = d ≡ (c + 2) % 3
Step (out c) bare = ⊥
Step (into c) (out d) = d ≡ (c + 2) % 3
Step (into c) (into d) = d ≡ c
Step (into c) bare = ⊥
Step bare l = ⊥

-- each label and the next, z after the last
abbrev pub Chain : Label → List Label → Label → Type 0
Chain a [] z = Step a z
Chain a (b ∷ bs) z = Step a b × Chain b bs z

-- what the last label was, when s edges out have been met
abbrev pub Last : ℕ → Label → Type 0
Last s (out c) = suc c ≡ s
Last s (into c) = (0 < s) × (c ≡ (s + 1) % 3)
Last s bare = ⊥

-- From the rule to the chain.

last_end : (a : Label) → Last 3 a → Step a (out 0)
last_end (out c) h = omega arith
last_end (into c) h = omega arith
last_end bare h = h

last_out : (s c : ℕ) (a : Label) → Last s a → c ≡ s → c < 3 → Step a (out c)
last_out s c (out d) h e l = omega arith
last_out s c (into d) h e l = omega arith
last_out s c bare h e l = h

last_into : (s c : ℕ) (a : Label) → Last s a → c ≡ (s + 1) % 3 → Step a (into c)
last_into s c (out d) h e = omega arith
last_into s c (into d) h e = omega arith
last_into s c bare h e = h

-- no more than three edges out are met
few_out : (s : ℕ) (ls : List Label) → turn_rule s ls ≡ true → s ≤ 3
unfolding turn_rule
few_out s [] h = omega (arith, eqb-true s 3 h)
few_out s (out c ∷ ls) h = let w = few_out (suc s) ls (and_true (eqb c s) (turn_rule (suc s) ls) h).1 in omega arith
few_out s (into c ∷ ls) h =
    few_out s ls
    (and_true (eqb c ((s + 1) % 3)) (turn_rule s ls) (and_true (ltb 0 s) (eqb c ((s + 1) % 3) && turn_rule s ls) h).1).1
few_out s (bare ∷ ls) h = clash false h refl

pub rule_chain : (s : ℕ) (a : Label) (ls : List Label) → Last s a → turn_rule s ls ≡ true → Chain a ls (out 0)
unfolding turn_rule
rule_chain s a [] l h = last_end a (subst (λ x. Last x a) (eqb-true s 3 h) l)
rule_chain s a (out c ∷ ls) l h =
    let t = and_true (eqb c s) (turn_rule (suc s) ls) h in
    let e : c ≡ s = eqb-true c s t.0 in
    let f = few_out (suc s) ls t.1 in
    (last_out s c a l e (omega arith), rule_chain (suc s) (out c) ls (omega arith) t.1)
rule_chain s a (into c ∷ ls) l h =
    let t = and_true (ltb 0 s) (eqb c ((s + 1) % 3) && turn_rule s ls) h in
    let u = and_true (eqb c ((s + 1) % 3)) (turn_rule s ls) t.1 in
    let z : 0 < s = ltb-true 0 s t.0 in
    let e : c ≡ (s + 1) % 3 = eqb-true c ((s + 1) % 3) u.0 in
    (last_into s c a l e, rule_chain s (into c) ls (omega arith) u.1)
rule_chain s a (bare ∷ ls) l h = clash false h refl

-- From the chain to the rule.

-- an edge out has a colour other than 0
abbrev pub Fine : Label → Type 0
Fine (out c) = (0 < c) × (c < 3)
Fine (into c) = Unit {0}
Fine bare = Unit {0}

abbrev pub AllFine : List Label → Type 0
AllFine [] = Unit {0}
AllFine (l ∷ ls) = Fine l × AllFine ls

end_three : (s : ℕ) (a : Label) → 0 < s → s ≤ 3 → Last s a → Step a (out 0) → s ≡ 3
end_three s (out c) p q l h = omega arith
end_three s (into c) p q l h = omega arith
end_three s bare p q l h = absurd l

next_out : (s c : ℕ) (a : Label) → 0 < s → s ≤ 3 → Last s a → Step a (out c) → 0 < c → c ≡ s
next_out s c (out d) p q l h z = omega arith
next_out s c (into d) p q l h z = omega arith
next_out s c bare p q l h z = absurd l

next_into : (s c : ℕ) (a : Label) → 0 < s → s ≤ 3 → Last s a → Step a (into c) → c ≡ (s + 1) % 3
next_into s c (out d) p q l h = omega arith
next_into s c (into d) p q l h = omega arith
next_into s c bare p q l h = absurd l

not_bare : (a : Label) → Step a bare → ⊥
not_bare (out c) h = h
not_bare (into c) h = h
not_bare bare h = h

pub chain_rule : (s : ℕ) (a : Label) (ls : List Label) → 0 < s → s ≤ 3 → Last s a → Chain a ls (out 0) → AllFine ls → turn_rule s ls ≡ true
unfolding turn_rule
chain_rule s a [] p q l c f = eq-eqb s 3 (end_three s a p q l c)
chain_rule s a (out d ∷ ls) p q l c f =
    let e : d ≡ s = next_out s d a p q l c.0 f.0.0 in
    let k = f.0.1 in
    rw (eq-eqb d s e) (chain_rule (suc s) (out d) ls (omega arith) (omega arith) (ap suc e) c.1 f.1)
chain_rule s a (into d ∷ ls) p q l c f =
    let e : d ≡ (s + 1) % 3 = next_into s d a p q l c.0 in
    rw (lt-ltb 0 s p, eq-eqb d ((s + 1) % 3) e) (chain_rule s (into d) ls p q (p, e) c.1 f.1)
chain_rule s a (bare ∷ ls) p q l c f = absurd (not_bare a c.0)

-- Chains along a table of labels: by place, and from places.

pub chain_at : (g : ℕ → Label) (k m : ℕ) → Chain (g k) (tabulate_from g (suc k) m) (g (suc (k + m)))
    → (i : ℕ) → i < suc m → Step (g (k + i)) (g (suc (k + i)))
unfolding tabulate_from
chain_at g k zero c zero l = rw add-zero (rw add-zero at c)
chain_at g k zero c (suc i) l = absurd (omega arith)
chain_at g k (suc m) c zero l = rw add-zero c.0
chain_at g k (suc m) c (suc i) l =
    let d =
    chain_at g (suc k) m (subst (λ x. Chain (g (suc k)) (tabulate_from g (suc (suc k)) m) (g x)) (omega arith) c.1) i (omega arith) in
    let e : suc k + i ≡ k + suc i = omega arith in
    rw e at d

pub chain_of : (g : ℕ → Label) (k m : ℕ) → ((i : ℕ) → i < suc m → Step (g (k + i)) (g (suc (k + i))))
    → Chain (g k) (tabulate_from g (suc k) m) (g (suc (k + m)))
unfolding tabulate_from
chain_of g k zero h = rw add-zero (rw add-zero at (h 0 (omega arith)))
chain_of g k (suc m) h = (
  rw add-zero at (h 0 (omega arith)),
  subst (λ x. Chain (g (suc k)) (tabulate_from g (suc (suc k)) m) (g x)) (omega arith)
      (chain_of g (suc k) m (λ i l. let e : k + suc i ≡ suc k + i = omega arith in rw e at (h (suc i) (omega arith)))),
)

-- The whole turn as a table of labels g 0, .., g m, which starts at out 0 and comes back to it.

pub rule_steps : (g : ℕ → Label) (m : ℕ) → g 0 ≡ out 0 → g (suc m) ≡ out 0 → turn_rule 0 (tabulate g (suc m)) ≡ true
    → (i : ℕ) → i < suc m → Step (g i) (g (suc i))
unfolding tabulate tabulate_from turn_rule
rule_steps g m e z h i l =
    let r : turn_rule 1 (tabulate_from g 1 m) ≡ true = rw e at h in
    let c : Chain (g 0) (tabulate_from g 1 m) (out 0) = rw e (rule_chain 1 (out 0) (tabulate_from g 1 m) refl r) in
    let y : g (suc (0 + m)) ≡ out 0 = ap (λ x. g (suc x)) (zero-add m) ∙ z in
    rw (zero-add i) at (chain_at g 0 m (subst (λ x. Chain (g 0) (tabulate_from g 1 m) x) (sym y) c) i l)

all_fine : (g : ℕ → Label) (k m : ℕ) → ((i : ℕ) → i < m → Fine (g (k + i))) → AllFine (tabulate_from g k m)
unfolding tabulate_from
all_fine g k zero h = tt
all_fine g k (suc m) h = (
  rw add-zero at (h 0 (omega arith)),
  all_fine g (suc k) m (λ i l. let e : k + suc i ≡ suc k + i = omega arith in rw e at (h (suc i) (omega arith))),
)

pub steps_rule : (g : ℕ → Label) (m : ℕ) → g 0 ≡ out 0 → g (suc m) ≡ out 0 → ((i : ℕ) → 0 < i → i < suc m → Fine (g i))
    → ((i : ℕ) → i < suc m → Step (g i) (g (suc i))) → turn_rule 0 (tabulate g (suc m)) ≡ true
unfolding tabulate tabulate_from turn_rule
steps_rule g m e z f h =
    let c : Chain (g 0) (tabulate_from g 1 m) (g (suc (0 + m))) = chain_of g 0 m (λ i l. rw (zero-add i) (h i l)) in
    let y : g (suc (0 + m)) ≡ out 0 = ap (λ x. g (suc x)) (zero-add m) ∙ z in
    let d : Chain (out 0) (tabulate_from g 1 m) (out 0) =
    subst (λ x. Chain x (tabulate_from g 1 m) (out 0)) e (subst (λ x. Chain (g 0) (tabulate_from g 1 m) x) y c) in
    rw e
    (chain_rule 1 (out 0) (tabulate_from g 1 m) (omega arith) (omega arith) refl d (all_fine g 1 m (λ i l. f (1 + i) (omega arith) (omega arith))))
