-- Number 12, and the turn rule. One turn round v is the list of the neighbours that iterating `third` meets: linked by triangles, each
-- once. Where its labels keep the rule the list falls into the parts that the sentence names, by going along it stage by stage; and
-- where a list is linked and has these parts it is that turn, since the next neighbour is determined, and its labels keep the rule.
use Prim.Native.Nat.{ℕ, zero, suc, ◌+◌, ◌-◌, ◌%◌, ◌≤◌, ◌<◌}
use mathlib.Core.Path.{◌≡◌, refl, sym, ap, ◌∙◌, subst}
use mathlib.Core.List.{List, [], ◌∷◌, ◌++◌, append-nil, append_assoc}
use mathlib.Core.Bool.{true, false, not, ◌&&◌}
use mathlib.Core.Logic.{◌≢◌}
use native.Mathlib.Omega.{arith}
use lib.ListN.{length}
use lib.Dec.{leb, ltb, eqb}
use borrow.Author.Tests.{ltb-true, lt-ltb, leb-true, leb-false, eqb-true, eqb-false, eq-eqb, not-false}
use Rattle.mesh.specs.Search.{some, iterate, tabulate_from, tabulate}
use Rattle.mesh.specs.Sides.{third, turn_length}
use Rattle.mesh.specs.Wood.{Label, out, into, bare, target, edge_of, label_of, turn_rule, labels_round}
use Rattle.mesh.specs.Verdict.{turn_rule_fault}
use Rattle.mesh.specs.Mesh.{Triangle, Side, Linked, Apart, Once, AllInto, TurnRule}
use Rattle.mesh.proofs.Tests.{by_bool, clash, and_true, and_fails, and_false_left, and_false_right, by_order}
use Rattle.mesh.proofs.Search.{some_none, none_some}
use Rattle.mesh.proofs.Iterate.{iterate_zero, iterate_step}
use Rattle.mesh.specs.Paired.{Paired}
use Rattle.mesh.proofs.TurnRule.{by_label}
use Rattle.mesh.proofs.Labels.{label_is_out, label_is_into}
use Rattle.theorems.proofs.Acceptance.Corners.{triangle_third, side_triangle, sides_on, Turn, turn_length_holds}

-- Lists given by a function: labels of its numbers, all different.

module _ (ws : List ℕ) (v : ℕ) where
  -- what the neighbours in a list are to v
  abbrev labels : List ℕ → List Label
  labels [] = []
  labels (x ∷ xs) = label_of ws v x ∷ labels xs

  labels_tabulated : (g : ℕ → ℕ) (k m : ℕ) → tabulate_from (λ i. label_of ws v (g i)) k m ≡ labels (tabulate_from g k m)
  unfolding tabulate_from
  labels_tabulated g k zero = refl
  labels_tabulated g k (suc m) = ap (λ (ls : List Label). label_of ws v (g k) ∷ ls) (labels_tabulated g (suc k) m)

apart_of : (x : ℕ) (g : ℕ → ℕ) (k m : ℕ) → ((j : ℕ) → k ≤ j → j < k + m → x ≢ g j) → Apart x (tabulate_from g k m)
unfolding tabulate_from
apart_of x g k zero h = tt
apart_of x g k (suc m) h = (h k (omega arith) (omega arith), apart_of x g (suc k) m (λ j a b. h j (omega arith) (omega arith)))

apart_at : (x : ℕ) (g : ℕ → ℕ) (k m : ℕ) → Apart x (tabulate_from g k m) → (j : ℕ) → k ≤ j → j < k + m → x ≢ g j
unfolding tabulate_from
apart_at x g k zero h j a b = absurd (omega arith)
apart_at x g k (suc m) h j a b =
    by_bool (eqb j k) (λ t e. h.0 (e ∙ ap g (eqb-true j k t)))
    (λ t. let z : j ≢ k = eqb-false j k t in apart_at x g (suc k) m h.1 j (omega arith) (omega arith))

once_of : (g : ℕ → ℕ) (k m : ℕ) → ((i j : ℕ) → i < j → j < k + m → g i ≢ g j) → Once (tabulate_from g k m)
unfolding tabulate_from
once_of g k zero h = tt
once_of g k (suc m) h =
    (apart_of (g k) g (suc k) m (λ j a b. h k j (omega arith) (omega arith)), once_of g (suc k) m (λ i j a b. h i j a (omega arith)))

-- From the rule to the parts.
module _ (ws : List ℕ) (v : ℕ) where
  -- when s edges out have been met: edges in of one colour, then edge s out, then what keeps the rule from there
  record Part (s : ℕ) (xs : List ℕ) : Type 0 where
    ins : List ℕ
    rest : List ℕ
    whole : xs ≡ ins ++ target ws (edge_of v s) ∷ rest
    all_in : AllInto ws v ((s + 1) % 3) ins
    later : turn_rule (suc s) (labels ws v rest) ≡ true

  met_out : (s c : ℕ) (ls : List Label) → turn_rule s (out c ∷ ls) ≡ true → (c ≡ s) × (turn_rule (suc s) ls ≡ true)
  unfolding turn_rule
  met_out s c ls e = let t = and_true (eqb c s) (turn_rule (suc s) ls) e in (eqb-true c s t.0, t.1)

  met_into : (s c : ℕ) (ls : List Label) → turn_rule s (into c ∷ ls) ≡ true → (0 < s) × (c ≡ (s + 1) % 3) × (turn_rule s ls ≡ true)
  unfolding turn_rule
  met_into s c ls e =
      let t = and_true (ltb 0 s) (eqb c ((s + 1) % 3) && turn_rule s ls) e in
      let u = and_true (eqb c ((s + 1) % 3)) (turn_rule s ls) t.1 in
      (ltb-true 0 s t.0, eqb-true c ((s + 1) % 3) u.0, u.1)

  met_bare : {A : Type 0} (s : ℕ) (ls : List Label) → turn_rule s (bare ∷ ls) ≡ true → A
  unfolding turn_rule
  met_bare s ls e = clash false e refl

  -- what the first of a list is to v
  met : {A : Type 0} (s x : ℕ) (xs : List ℕ) → turn_rule s (labels ws v (x ∷ xs)) ≡ true
      → (target ws (edge_of v s) ≡ x → s < 3 → turn_rule (suc s) (labels ws v xs) ≡ true → A)
      → (target ws (edge_of x ((s + 1) % 3)) ≡ v → 0 < s → turn_rule s (labels ws v xs) ≡ true → A) → A
  met s x xs e f g =
      by_label (label_of ws v x)
      (λ c q.
      let t = met_out s c (labels ws v xs) (ap (λ (l : Label). turn_rule s (l ∷ labels ws v xs)) (sym q) ∙ e) in
      let o = label_is_out ws v x c q in
      f (ap (λ z. target ws (edge_of v z)) (sym t.0) ∙ o.1) (subst (λ z. z < 3) t.0 o.0) t.1)
      (λ c q.
      let t = met_into s c (labels ws v xs) (ap (λ (l : Label). turn_rule s (l ∷ labels ws v xs)) (sym q) ∙ e) in
      let o = label_is_into ws v x c q in
      g (ap (λ z. target ws (edge_of x z)) (sym t.1) ∙ o.1) t.0 t.2)
      (λ q. met_bare s (labels ws v xs) (ap (λ (l : Label). turn_rule s (l ∷ labels ws v xs)) (sym q) ∙ e))

  part : (s : ℕ) (xs : List ℕ) → s < 3 → turn_rule s (labels ws v xs) ≡ true → Part s xs
  unfolding turn_rule
  part s [] l e = absurd (omega (arith, eqb-true s 3 e))
  part s (x ∷ xs) l e =
      met s x xs e (λ o _ t. record { ins = []; rest = xs; whole = ap (λ z. z ∷ xs) (sym o); all_in = tt; later = t })
      (λ i _ t.
      let r = part s xs l t in
      record { ins = x ∷ r.ins; rest = r.rest; whole = ap (λ (ys : List ℕ). x ∷ ys) r.whole; all_in = (i, r.all_in); later = r.later })

  last_part : (xs : List ℕ) → turn_rule 3 (labels ws v xs) ≡ true → AllInto ws v 1 xs
  last_part [] e = tt
  last_part (x ∷ xs) e = met 3 x xs e (λ _ l _. absurd (omega arith)) (λ i _ t. (i, last_part xs t))

  -- at the beginning no edge in may come
  first_part : (x : ℕ) (xs : List ℕ) → turn_rule 0 (labels ws v (x ∷ xs)) ≡ true → turn_rule 1 (labels ws v xs) ≡ true
  first_part x xs e = met 0 x xs e (λ _ _ t. t) (λ _ l _. absurd (omega arith))

-- From the parts to the rule, where the edges of a list of parts are the labels that v sees of them.
module _ (ws : List ℕ) (v : ℕ)
    (is_out : (c : ℕ) → c < 3 → label_of ws v (target ws (edge_of v c)) ≡ out c)
    (is_into : (x c : ℕ) → c < 3 → target ws (edge_of x c) ≡ v → label_of ws v x ≡ into c) where
  after_out : (s : ℕ) (xs : List ℕ) → s < 3 → turn_rule (suc s) (labels ws v xs) ≡ true → turn_rule s (labels ws v (target ws (edge_of v s) ∷ xs)) ≡ true
  unfolding turn_rule
  after_out s xs l e = rw (is_out s l, eq-eqb s s refl) e

  after_into : (s : ℕ) (ins xs : List ℕ) → 0 < s → AllInto ws v ((s + 1) % 3) ins → turn_rule s (labels ws v xs) ≡ true → turn_rule s (labels ws v (ins ++ xs)) ≡ true
  unfolding turn_rule
  after_into s [] xs l a e = e
  after_into s (x ∷ ins) xs l a e =
      rw (is_into x ((s + 1) % 3) (omega arith) a.0, lt-ltb 0 s l, eq-eqb ((s + 1) % 3) ((s + 1) % 3) refl) (after_into s ins xs l a.1 e)

  parts_rule : (in2 in0 in1 : List ℕ) → AllInto ws v 2 in2 → AllInto ws v 0 in0 → AllInto ws v 1 in1
      → turn_rule 0 (labels ws v (target ws (edge_of v 0) ∷ in2 ++ target ws (edge_of v 1) ∷ in0 ++ target ws (edge_of v 2) ∷ in1)) ≡ true
  unfolding turn_rule
  parts_rule in2 in0 in1 a2 a0 a1 =
      let o1 : ℕ = target ws (edge_of v 1) in
      let o2 : ℕ = target ws (edge_of v 2) in
      let end : turn_rule 3 (labels ws v in1) ≡ true = rw append-nil at (after_into 3 in1 [] (omega arith) a1 refl) in
      after_out 0 (in2 ++ o1 ∷ in0 ++ o2 ∷ in1) (omega arith)
      (rw (append_assoc in2 (o1 ∷ in0) (o2 ∷ in1))
      (after_into 1 in2 (o1 ∷ in0 ++ o2 ∷ in1) (omega arith) a2
      (after_out 1 (in0 ++ o2 ∷ in1) (omega arith)
      (after_into 2 in0 (o2 ∷ in1) (omega arith) a0 (after_out 2 in1 (omega arith) end)))))

-- The turn as a list.
module _ (n : ℕ) (ts : List ℕ) (P : Paired n ts) (v a : ℕ) (side : Side ts v a) where
  -- the neighbour met after i steps
  abbrev nth : ℕ → ℕ
  nth i = iterate (third ts v) i a

  linked : (k m : ℕ) → Linked ts v (nth k) (tabulate_from nth (suc k) m) (nth (suc (k + m)))
  unfolding tabulate_from
  linked k zero =
      subst (Triangle ts v (nth k)) (sym (iterate_step (third ts v) k a) ∙ ap (λ (i : ℕ). nth i) (omega arith))
      (side_triangle n ts P v (nth k) (sides_on n ts P v k a side))
  linked k (suc m) = (
    subst (Triangle ts v (nth k)) (sym (iterate_step (third ts v) k a)) (side_triangle n ts P v (nth k) (sides_on n ts P v k a side)),
    subst (λ (i : ℕ). Linked ts v (nth (suc k)) (tabulate_from nth (suc (suc k)) m) (nth i)) (omega arith) (linked (suc k) m),
  )

  -- a linked list is the turn: the next neighbour is determined
  linked_is : (k : ℕ) (ys : List ℕ) (x z : ℕ) → x ≡ nth k → Linked ts v x ys z
      → (ys ≡ tabulate_from nth (suc k) (length ys)) × (z ≡ nth (suc (k + length ys)))
  unfolding tabulate_from
  linked_is k [] x z e t =
      (refl, sym (triangle_third n ts P v x z t) ∙ ap (third ts v) e ∙ sym (iterate_step (third ts v) k a) ∙ ap (λ (i : ℕ). nth i) (omega arith))
  linked_is k (y ∷ ys) x z e (t, r) =
      let q : y ≡ nth (suc k) = sym (triangle_third n ts P v x y t) ∙ ap (third ts v) e ∙ sym (iterate_step (third ts v) k a) in
      let h = linked_is (suc k) ys y z q r in
      (ap (λ (u : ℕ). u ∷ ys) q ∙ ap (λ (us : List ℕ). nth (suc k) ∷ us) h.0, h.1 ∙ ap (λ (i : ℕ). nth i) (omega arith))

  -- one turn, as its sentence says it: linked, and each neighbour once
  one_linked : (m : ℕ) → Turn n ts P v a (suc m) → Linked ts v a (tabulate_from nth 1 m) a
  one_linked m T =
      subst (λ (x : ℕ). Linked ts v x (tabulate_from nth 1 m) a) (iterate_zero (third ts v) a)
      (subst (Linked ts v (nth 0) (tabulate_from nth 1 m)) (ap (λ (i : ℕ). nth i) (omega arith) ∙ T.closes) (linked 0 m))

  one_once : (m : ℕ) → Turn n ts P v a (suc m) → Once (a ∷ tabulate_from nth 1 m)
  unfolding tabulate_from
  one_once m T =
      subst (λ (x : ℕ). Once (x ∷ tabulate_from nth 1 m)) (iterate_zero (third ts v) a)
      (once_of nth 0 (suc m) (λ i j g h. T.apart i j g (omega arith)))

  -- a linked list that comes back, and that meets its first neighbour only then, has the turn's length
  length_is : (m d : ℕ) → Turn n ts P v a d → a ≡ nth (suc m) → Apart a (tabulate_from nth 1 m) → d ≡ suc m
  length_is m d T e h =
      by_order d (suc m)
      (λ l. absurd (apart_at a nth 1 m h d (let z = T.some_steps in omega arith) (omega arith) (sym T.closes)))
      (λ q. q)
      (λ l. absurd (T.apart 0 (suc m) (omega arith) l (iterate_zero (third ts v) a ∙ e)))

-- The rule at an inner vertex, by the test and by the sentence.
module _ (n : ℕ) (ts ws : List ℕ) (P : Paired n ts) (v : ℕ) (side : Side ts v (target ws (edge_of v 0))) where
  abbrev first_met : ℕ
  first_met = target ws (edge_of v 0)

  abbrev met_after : ℕ → ℕ
  met_after i = iterate (third ts v) i first_met

  -- the labels of one turn are the labels of its list
  labels_are : (m : ℕ) → turn_length n (third ts) v first_met ≡ suc m → labels_round n (third ts) ws v ≡ labels ws v (first_met ∷ tabulate_from met_after 1 m)
  unfolding labels_round tabulate tabulate_from
  labels_are m e =
      ap (λ (k : ℕ). tabulate_from (λ i. label_of ws v (met_after i)) 0 k) e ∙ labels_tabulated ws v met_after 0 (suc m) ∙
      ap (λ (x : ℕ). labels ws v (x ∷ tabulate_from met_after 1 m)) (iterate_zero (third ts v) first_met)

  in_parts : (ys : List ℕ) → Linked ts v first_met ys first_met → Once (first_met ∷ ys) → turn_rule 0 (labels ws v (first_met ∷ ys)) ≡ true → TurnRule ts ws v
  in_parts ys link once e =
      let p = part ws v 1 ys (omega arith) (first_part ws v first_met ys e) in
      let q = part ws v 2 p.rest (omega arith) p.later in
      let o1 : ℕ = target ws (edge_of v 1) in
      let o2 : ℕ = target ws (edge_of v 2) in
      let w : ys ≡ p.ins ++ o1 ∷ q.ins ++ o2 ∷ q.rest =
      p.whole ∙ ap (λ (us : List ℕ). p.ins ++ o1 ∷ us) q.whole ∙ sym (append_assoc p.ins (o1 ∷ q.ins) (o2 ∷ q.rest)) in
      record {
        in2 = p.ins;
        in0 = q.ins;
        in1 = q.rest;
        turn = subst (λ (us : List ℕ). Linked ts v first_met us first_met) w link;
        one_turn = subst (λ (us : List ℕ). Once (first_met ∷ us)) w once;
        all_in2 = p.all_in;
        all_in0 = q.all_in;
        all_in1 = last_part ws v q.rest q.later;
      }

  pub rule_parts : turn_rule 0 (labels_round n (third ts) ws v) ≡ true → TurnRule ts ws v
  rule_parts e =
      let T = turn_length_holds n ts P v first_met side in
      let m : ℕ = turn_length n (third ts) v first_met - 1 in
      let d : turn_length n (third ts) v first_met ≡ suc m = (let z = T.some_steps in omega arith) in
      let U : Turn n ts P v first_met (suc m) = subst (Turn n ts P v first_met) d T in
      in_parts (tabulate_from met_after 1 m) (one_linked n ts P v first_met side m U) (one_once n ts P v first_met side m U)
      (ap (turn_rule 0) (sym (labels_are m d)) ∙ e)

  pub parts_keep : ((c : ℕ) → c < 3 → label_of ws v (target ws (edge_of v c)) ≡ out c)
      → ((x c : ℕ) → c < 3 → target ws (edge_of x c) ≡ v → label_of ws v x ≡ into c)
      → TurnRule ts ws v → turn_rule 0 (labels_round n (third ts) ws v) ≡ true
  parts_keep is_out is_into R =
      let ys : List ℕ = R.in2 ++ target ws (edge_of v 1) ∷ R.in0 ++ target ws (edge_of v 2) ∷ R.in1 in
      let m : ℕ = length ys in
      let h = linked_is n ts P v first_met side 0 ys first_met first_met (sym (iterate_zero (third ts v) first_met)) R.turn in
      let back : first_met ≡ met_after (suc m) = h.1 ∙ ap (λ (i : ℕ). met_after i) (omega arith) in
      let d : turn_length n (third ts) v first_met ≡ suc m =
      length_is n ts P v first_met side m (turn_length n (third ts) v first_met) (turn_length_holds n ts P v first_met side) back
      (subst (Apart first_met) h.0 R.one_turn.0) in
      ap (turn_rule 0) (labels_are m d ∙ ap (λ (us : List ℕ). labels ws v (first_met ∷ us)) (sym h.0)) ∙
      parts_rule ws v is_out is_into R.in2 R.in0 R.in1 R.all_in2 R.all_in0 R.all_in1

-- 12, at every inner vertex
pub turn_kept : (n : ℕ) (ts ws : List ℕ) → some (turn_rule_fault n (third ts) ws) n ≡ false
    → (v : ℕ) → 3 ≤ v → v < n → turn_rule 0 (labels_round n (third ts) ws v) ≡ true
turn_kept n ts ws no12 v h l =
    and_fails (leb 3 v) (not (turn_rule 0 (labels_round n (third ts) ws v))) (some_none (turn_rule_fault n (third ts) ws) n no12 v l)
    (λ t. absurd (omega (arith, leb-false 3 v t))) (λ t. not-false (turn_rule 0 (labels_round n (third ts) ws v)) t)

pub turns_right : (n : ℕ) (ts ws : List ℕ) → ((v : ℕ) → 3 ≤ v → v < n → turn_rule 0 (labels_round n (third ts) ws v) ≡ true)
    → some (turn_rule_fault n (third ts) ws) n ≡ false
turns_right n ts ws rule =
    none_some (turn_rule_fault n (third ts) ws) n
    (λ v l. by_bool (leb 3 v)
    (λ t. and_false_right (leb 3 v) (not (turn_rule 0 (labels_round n (third ts) ws v))) (rw (rule v (leb-true 3 v t) l)))
    (λ t. and_false_left (leb 3 v) (not (turn_rule 0 (labels_round n (third ts) ws v))) t))
