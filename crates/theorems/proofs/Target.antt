-- Target on an accepted mesh. LeftFront goes clockwise round the target v: from an edge of colour c into v one comes to another, or
-- to the edge of colour c+1 out of v, where the walk stops; at the anchors it stops at edges 3, 7 and 6. Each step is another side at
-- v, so the walk is shorter than v has sides, and it cannot go round for ever since one of them stops it.
use Prim.Native.Nat.{ℕ, zero, suc, ◌+◌, ◌*◌, ◌%◌, ◌≤◌, ◌<◌}
use mathlib.Core.Path.{◌≡◌, refl, sym, ap, ◌∙◌}
use mathlib.Core.List.{List}
use mathlib.Core.Bool.{Bool, true, false, not}
use mathlib.Core.Logic.{◌≢◌}
use native.Mathlib.Omega.{arith}
use lib.Dec.{ltb, eqb}
use borrow.Author.Tests.{ltb-true, ltb-false, eqb-true, eqb-false, eq-eqb, ne_eqb, not-true, not-false}
use Rattle.mesh.specs.Search.{first, iterate}
use Rattle.mesh.specs.Wood.{out, into, source, colour}
use Rattle.mesh.specs.Reading.{Stop, at_vertex, go_on, is_torn, stop_at}
use Rattle.mesh.proofs.Tests.{by_bool, clash, by3}
use Rattle.mesh.proofs.Search.{first_law}
use Rattle.mesh.proofs.Count.{count_inj, count_without, count_all, without}
use Rattle.theorems.proofs.Rotation.{Rotation, degree, back_within, turn_back, turns_back_in, turns_back_from, to_twin}
use Rattle.theorems.proofs.Coloured.{Coloured, swap, edge, edge_out, edge_into, edge_twin, before_in}
use Rattle.theorems.proofs.Marked.{Marked, label, wood, out_is, is_out, is_into, label_between, edge_at, at0, anchor, three, e6, e7}

-- The walk of colour c goes on from e.

abbrev pub is_go_on : Stop → Bool
is_go_on (at_vertex v) = false
is_go_on go_on = true
is_go_on is_torn = false

abbrev pub goes : ℕ → ℕ → Bool
goes c e = is_go_on (stop_at c e)

goes_on_is : (s : Stop) → is_go_on s ≡ true → s ≡ go_on
goes_on_is (at_vertex v) e = clash false e refl
goes_on_is go_on e = refl
goes_on_is is_torn e = clash false e refl

pub goes_stop : (c e : ℕ) → goes c e ≡ true → stop_at c e ≡ go_on
goes_stop c e g = goes_on_is (stop_at c e) g

module _ (c e : ℕ) where
  stop_3 : e ≡ 3 → stop_at c e ≡ at_vertex 0
  unfolding stop_at
  stop_3 q = rw (eq-eqb e 3 q)

  stop_7 : e ≡ 7 → stop_at c e ≡ at_vertex 1
  unfolding stop_at
  stop_7 q = let n3 : e ≢ 3 = (λ z. omega arith) in rw (ne_eqb e 3 n3, eq-eqb e 7 q)

  module _ (n3 : e ≢ 3) (n7 : e ≢ 7) where
    stop_next : colour e ≡ (c + 1) % 3 → stop_at c e ≡ at_vertex (source e)
    unfolding stop_at
    stop_next q = rw (ne_eqb e 3 n3, ne_eqb e 7 n7, eq-eqb (colour e) ((c + 1) % 3) q)

    stop_on : c < 3 → colour e ≡ c → stop_at c e ≡ go_on
    unfolding stop_at
    stop_on k q = rw (ne_eqb e 3 n3, ne_eqb e 7 n7, ne_eqb (colour e) ((c + 1) % 3) (omega arith), eq-eqb (colour e) c q)

  -- it goes on only from an edge of its own colour other than 3 and 7
  goes_colour : goes c e ≡ true → colour e ≡ c
  unfolding stop_at
  goes_colour g =
      by_bool (eqb e 3) (λ t. clash (goes c e) g (rw t))
      (λ t. by_bool (eqb e 7) (λ u. clash (goes c e) g (rw (t, u)))
      (λ u. by_bool (eqb (colour e) ((c + 1) % 3)) (λ v. clash (goes c e) g (rw (t, u, v)))
      (λ v. by_bool (eqb (colour e) c) (λ w. eqb-true (colour e) c w) (λ w. clash (goes c e) g (rw (t, u, v, w))))))

  halt_other : colour e ≢ c → goes c e ≡ false
  halt_other d = by_bool (goes c e) (λ g. absurd (d (goes_colour g))) (λ g. g)

  halt_3 : e ≡ 3 → goes c e ≡ false
  halt_3 q = rw (stop_3 q)

  halt_7 : e ≡ 7 → goes c e ≡ false
  halt_7 q = rw (stop_7 q)

-- Over a coloured surface, with LF the Fronts.
module _ (R : Rotation) (W : Coloured R) (LF : ℕ → ℕ)
    (lf : (p c : ℕ) → p < R.size → W.label p ≡ out c → LF (3 * R.from p + c) ≡ edge R W (R.next p)) where
  open R use {size, next, twin, from, next_in, next_3, twin_in, twin_2, from_twin, differ}
  open W use {label, outer, colour_in, flip, outer_next, local, inside, to3, to7, anchor}

  -- the side met after some steps: an edge of colour c in, or the one of colour c + 1 out
  data At (c q : ℕ) : Type 0 where
    coming : label q ≡ into c → At c q
    going : label q ≡ out ((c + 1) % 3) → At c q

  onward : (q c f : ℕ) → c < 3 → q < size → f ≡ edge R W q → At c q → goes c f ≡ true
      → (LF f ≡ edge R W (turn_back R q)) × At c (turn_back R q)
  onward q c f k l e (coming m) g =
      let m' : label (twin q) ≡ out c = flip q l ∙ ap swap m in
      let y : f ≡ 3 * from (twin q) + c = e ∙ sym (edge_twin R W q l) ∙ edge_out R W (twin q) c m' in (
        ap LF y ∙ lf (twin q) c (twin_in q l) m',
        before_in R W (twin q) c (twin_in q l)
            (inside (twin q) c (twin_in q l) m' (λ z. clash (goes c f) g (halt_3 c f (y ∙ z))) (λ z. clash (goes c f) g (halt_7 c f (y ∙ z)))) m' coming going,
      )
  onward q c f k l e (going m) g =
      let t = goes_colour c f g in
      let y : f ≡ 3 * from q + (c + 1) % 3 = e ∙ edge_out R W q ((c + 1) % 3) m in
      absurd (omega arith)

  -- after i steps the walk stands at the i-th side back round the target
  walks : (p c : ℕ) → p < size → label p ≡ out c → (i : ℕ) → ((k : ℕ) → k < i → goes c (iterate LF k (3 * from p + c)) ≡ true)
      → (iterate LF i (3 * from p + c) ≡ edge R W (iterate (turn_back R) i (twin p))) × At c (iterate (turn_back R) i (twin p))
  unfolding iterate
  walks p c l e zero h = (sym (edge_twin R W p l ∙ edge_out R W p c e), coming (flip p l ∙ ap swap e))
  walks p c l e (suc i) h =
      let w = walks p c l e i (λ k g. h k (omega arith)) in
      onward (iterate (turn_back R) i (twin p)) c (iterate LF i (3 * from p + c)) (colour_in p c l e) (turns_back_in R i (twin p) (twin_in p l)) w.0 w.1
      (h i (omega arith))

  -- where it halts the answer is the target
  halted : (q c f : ℕ) → c < 3 → q < size → f ≡ edge R W q → At c q → (from q < 3 → c ≡ from q) → goes c f ≡ false → stop_at c f ≡ at_vertex (from q)
  halted q c f k l e (coming m) a g =
      let m' : label (twin q) ≡ out c = flip q l ∙ ap swap m in
      let y : f ≡ 3 * from (twin q) + c = e ∙ sym (edge_twin R W q l) ∙ edge_out R W (twin q) c m' in
      by_bool (eqb f 3)
      (λ t. let z : from q ≡ 0 = sym (to_twin R q l) ∙ to3 (twin q) c (twin_in q l) m' (sym y ∙ eqb-true f 3 t) in stop_3 c f (eqb-true f 3 t) ∙ ap at_vertex (sym z))
      (λ t. by_bool (eqb f 7)
      (λ u. let z : from q ≡ 1 = sym (to_twin R q l) ∙ to7 (twin q) c (twin_in q l) m' (sym y ∙ eqb-true f 7 u) in stop_7 c f (eqb-true f 7 u) ∙ ap at_vertex (sym z))
      (λ u. clash (goes c f) (ap is_go_on (stop_on c f (eqb-false f 3 t) (eqb-false f 7 u) k (omega arith))) g))
  halted q c f k l e (going m) a g =
      let y : f ≡ 3 * from q + (c + 1) % 3 = e ∙ edge_out R W q ((c + 1) % 3) m in
      let n3 : f ≢ 3 = (λ z. let w : from q ≡ 1 = omega arith in let x = a (omega arith) in omega arith) in
      let n7 : f ≢ 7 = (λ z. let w : from q ≡ 2 = omega arith in let x = a (omega arith) in omega arith) in
      let d : source f ≡ from q = omega arith in
      stop_next c f n3 n7 (omega arith) ∙ ap at_vertex d

  -- how far the walk goes, looked for m times
  unfoldable pub steps : ℕ → ℕ → ℕ → ℕ
  steps m c j = first (λ i. not (goes c (iterate LF i j))) m

  pub record Walked (p c r : ℕ) : Type 0 where
    pub short : r < degree R (from (next p))
    pub on : (i : ℕ) → i < r → stop_at c (iterate LF i (3 * from p + c)) ≡ go_on
    pub stands : (i : ℕ) → i < suc r → iterate LF i (3 * from p + c) ≡ edge R W (iterate (turn_back R) i (twin p))
    pub stops : stop_at c (iterate LF r (3 * from p + c)) ≡ at_vertex (from (next p))

  pub walked : (p c : ℕ) → p < size → label p ≡ out c → (s : ℕ) → s < size → from s ≡ from (next p) → goes c (edge R W s) ≡ false
      → Walked p c (steps (degree R (from (next p))) c (3 * from p + c))
  unfolding steps
  walked p c l e s ls es hs =
      let j : ℕ = 3 * from p + c in
      let m : ℕ = degree R (from (next p)) in
      let t : ℕ → Bool = (λ i. not (goes c (iterate LF i j))) in
      let r : ℕ = first t m in
      let law = first_law t m in
      let bk = back_within R (twin p) s (twin_in p l) ls (from_twin p l ∙ sym es) in
      let k : ℕ = bk.0 in
      let on : (i : ℕ) → i < r → goes c (iterate LF i j) ≡ true = (λ i g. not-false (goes c (iterate LF i j)) (law.low i g)) in
      let small : r ≤ k =
      by_bool (ltb k r)
      (λ u.
      let g : k < r = ltb-true k r u in
      clash (goes c (iterate LF k j)) (on k g) (ap (goes c) ((walks p c l e k (λ i h. on i (omega arith))).0 ∙ ap (edge R W) bk.1) ∙ hs))
      (λ u. ltb-false k r u) in
      let d : suc k ≤ m = omega (arith, bk.3, ap (degree R) (from_twin p l)) in
      let w = walks p c l e r on in
      let q : ℕ = iterate (turn_back R) r (twin p) in
      let fq : from q ≡ from (next p) = turns_back_from R r (twin p) (twin_in p l) ∙ from_twin p l in
      record {
        short = omega arith;
        on = λ i g. goes_stop c (iterate LF i j) (on i g);
        stands = λ i g. (walks p c l e i (λ k h. on k (omega arith))).0;
        stops = halted q c (iterate LF r j) (colour_in p c l e) (turns_back_in R r (twin p) (twin_in p l)) w.0 w.1
            (λ h. anchor p c l e (rw fq at h) ∙ sym fq) (not-true (goes c (iterate LF r j)) (law.hit (omega arith))) ∙ ap at_vertex fq;
      }

-- Over a marked surface: some side at the target stops the walk, and a vertex has fewer sides than there are vertices.
module _ (R : Rotation) (n : ℕ) (ws : List ℕ) (M : Marked R n ws) where
  open R use {size, next, twin, from, next_in, next_3, twin_in, from_twin, differ, once}

  pub degree_less : (v : ℕ) → v < n → degree R v < n
  unfolding degree
  degree_less v l =
      let c =
      count_inj size n (λ p. from (next p)) (λ p. eqb (from p) v) (without (λ x. true) v)
      (λ p lp e. (M.corner (next p) (next_in p lp), rw (ne_eqb (from (next p)) v (λ z. differ p lp (eqb-true (from p) v e ∙ sym z)))))
      (λ p q lp lq e f z. once p q lp lq (eqb-true (from p) v e ∙ sym (eqb-true (from q) v f)) z) in
      let d = count_without (λ x. true) n v l refl in
      let a = count_all n in
      omega arith

  abbrev W : Coloured R
  W = wood R n ws M

  at_anchor_0 : (c z : ℕ) → z ≡ 0 → (s : ℕ) × (s < size) × (from s ≡ z) × (goes c (edge R W s) ≡ false)
  at_anchor_0 c z e =
      let o = M.outer_at in
      let lo = M.outer_in in
      let l2 = next_in (next o) (next_in o lo) in
      let s : ℕ = twin (next (next o)) in
      let a : from s ≡ 0 = from_twin (next (next o)) l2 ∙ ap from (next_3 o lo) ∙ M.outer_0 in
      let b : from (next s) ≡ 1 = to_twin R (next (next o)) l2 ∙ M.outer_1 in (
        s,
        twin_in (next (next o)) l2,
        a ∙ sym e,
        halt_3 c (edge R W s) (edge_into R W s 0 (at0 R n ws M s (twin_in (next (next o)) l2) a) ∙ ap (λ x. 3 * x + 0) b),
      )

  at_anchor_1 : (c z : ℕ) → z ≡ 1 → (s : ℕ) × (s < size) × (from s ≡ z) × (goes c (edge R W s) ≡ false)
  at_anchor_1 c z e =
      let o = M.outer_at in
      let lo = M.outer_in in
      let l1 = next_in o lo in
      let k = three R n ws M in
      let s : ℕ = twin (next o) in
      let a : from s ≡ 1 = from_twin (next o) l1 ∙ M.outer_1 in
      let b : from (next s) ≡ 2 = to_twin R (next o) l1 ∙ M.outer_2 in (
        s,
        twin_in (next o) l1,
        a ∙ sym e,
        halt_7 c (edge R W s)
            (edge_into R W s 1 (label_between R n ws M s 1 2 a b ∙ is_into R n ws M 2 1 1 (omega arith) (omega arith) (omega arith) (e7 R n ws M)) ∙ ap (λ x. 3 * x + 1) b),
      )

  at_anchor_2 : (c z : ℕ) → z ≡ 2 → c ≡ 2 → (s : ℕ) × (s < size) × (from s ≡ z) × (goes c (edge R W s) ≡ false)
  at_anchor_2 c z e c2 =
      let o = M.outer_at in
      let lo = M.outer_in in
      let k = three R n ws M in
      let s : ℕ = twin o in
      let a : from s ≡ 2 = from_twin o lo ∙ M.outer_2 in
      let b : from (next s) ≡ 0 = to_twin R o lo ∙ M.outer_0 in
      let y : edge R W s ≡ 6 =
      edge_out R W s 0 (label_between R n ws M s 2 0 a b ∙ is_out R n ws M 2 0 0 (omega arith) (omega arith) (omega arith) (e6 R n ws M)) ∙ ap (λ x. 3 * x + 0) a in
      (s, twin_in o lo, a ∙ sym e, halt_other c (edge R W s) (omega arith))

  pub stopping_side : (p c : ℕ) → p < size → label R n ws M p ≡ out c → (s : ℕ) × (s < size) × (from s ≡ from (next p)) × (goes c (edge R W s) ≡ false)
  stopping_side p c l e =
      let k = (out_is R n ws M p c e).0 in
      by_bool (ltb (from (next p)) 3)
      (λ t.
      let low = ltb-true (from (next p)) 3 t in
      by3 (from (next p)) low (at_anchor_0 c (from (next p))) (at_anchor_1 c (from (next p)))
      (λ z. at_anchor_2 c (from (next p)) z (anchor R n ws M p c l e low ∙ z)))
      (λ t.
      let a = edge_at R n ws M (from (next p)) ((c + 1) % 3) (ltb-false (from (next p)) 3 t) (M.corner (next p) (next_in p l)) (omega arith) in
      let y : edge R W a.0 ≡ 3 * from a.0 + (c + 1) % 3 = edge_out R W a.0 ((c + 1) % 3) a.3 in
      (a.0, a.1, a.2, halt_other c (edge R W a.0) (omega arith)))
