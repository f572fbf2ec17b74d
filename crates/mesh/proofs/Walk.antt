-- Target's walk: its five steps, and what its answer says. The walk answers vertex v after r reads exactly where the chain of
-- LeftFronts from its start goes on r times, each time to an edge, and then stops at v. So the reads are the edges gone on to.
use Prim.Native.Nat.{ℕ, zero, suc, ◌+◌, ◌-◌, ◌*◌, ◌≤◌, ◌<◌}
use native.Mathlib.Omega.{arith}
use native.Mathlib.Nat.{not-suc-le-zero, zero-add}
use mathlib.Core.Path.{◌≡◌, refl, sym, ap, ◌∙◌}
use mathlib.Core.List.{List, [], ◌∷◌}
use mathlib.Core.Bool.{Bool, true, false}
use lib.Dec.{ltb}
use lib.ListN.{length}
use borrow.Author.Tests.{ltb-true, eq-eqb}
use Rattle.mesh.specs.Search.{iterate}
use Rattle.mesh.specs.Limits.{out_of_range, references_length}
use Rattle.mesh.specs.Wood.{colour, used, is_edge}
use Rattle.mesh.specs.Array.{Hand, left}
use Rattle.mesh.specs.Reading.{refused, torn, asked, fronts_in, Stop, at_vertex, go_on, is_torn, stop_at, walk, target_answer, Chain, references_fit, read_target_of}
use Rattle.mesh.proofs.Tests.{by_bool, and_true}
use Rattle.mesh.proofs.Iterate.{iterate_zero, iterate_suc}

-- an edge is below 3n
pub edge_bound : (n e : ℕ) → is_edge n e ≡ true → e < 3 * n
edge_bound n e u = ltb-true e (3 * n) (and_true (used e) (ltb e (3 * n)) u).1

-- the cases of a step
module _ (n : ℕ) (fronts : Hand → ℕ → ℕ) (c e reads : ℕ) where
  pub walk_at_vertex : (more v : ℕ) → stop_at c e ≡ at_vertex v → walk n fronts c more e reads ≡ 0 ∷ v ∷ reads ∷ []
  unfolding walk
  walk_at_vertex zero v h = rw h
  walk_at_vertex (suc more) v h = rw h

  pub walk_torn : (more : ℕ) → stop_at c e ≡ is_torn → walk n fronts c more e reads ≡ torn
  unfolding walk
  walk_torn zero h = rw h
  walk_torn (suc more) h = rw h

  module _ (h : stop_at c e ≡ go_on) where
    pub walk_spent : walk n fronts c 0 e reads ≡ torn
    unfolding walk
    walk_spent = rw h

    pub walk_astray : (more : ℕ) → is_edge n (fronts left e) ≡ false → walk n fronts c more e reads ≡ torn
    unfolding walk
    walk_astray zero u = rw h
    walk_astray (suc more) u = rw (h, u)

    pub walk_goes_on : (more : ℕ) → 0 < more → is_edge n (fronts left e) ≡ true
        → walk n fronts c more e reads ≡ walk n fronts c (more - 1) (fronts left e) (reads + 1)
    unfolding walk
    walk_goes_on zero l u = absurd (not-suc-le-zero l)
    walk_goes_on (suc more) l u = let m : suc more - 1 ≡ more = omega arith in rw (h, u, m)

pub by_stop {ℓ} : {A : Type ℓ} (s : Stop) → ((v : ℕ) → s ≡ at_vertex v → A) → (s ≡ go_on → A) → (s ≡ is_torn → A) → A
by_stop (at_vertex v) f g h = f v refl
by_stop go_on f g h = g refl
by_stop is_torn f g h = h refl

refused_answers_none {ℓ} : {A : Type ℓ} (k v r : ℕ) → refused k ≡ 0 ∷ v ∷ r ∷ [] → A
refused_answers_none k v r h = absurd (let z : ◌≡◌ {A = ℕ} 0 1 = cc in omega arith)

module _ (n : ℕ) (fronts : Hand → ℕ → ℕ) (c : ℕ) where
  -- a chain that stops where it starts; one step put before a chain, and taken off its front
  chain_none : (e v : ℕ) → stop_at c e ≡ at_vertex v → Chain n fronts c e v 0
  unfolding iterate
  chain_none e v h = record { goes_on = λ i l. absurd (omega arith); edges = λ i l. absurd (omega arith); stops = h }

  chain_more : (e v r : ℕ) → stop_at c e ≡ go_on → is_edge n (fronts left e) ≡ true → Chain n fronts c (fronts left e) v r → Chain n fronts c e v (suc r)
  chain_more e v r on u h = record { goes_on = on_at; edges = edge_at; stops = ap (stop_at c) (iterate_suc (fronts left) r e) ∙ h.stops }
    where
      on_at : (i : ℕ) → i < suc r → stop_at c (iterate (fronts left) i e) ≡ go_on
      on_at zero l = ap (stop_at c) (iterate_zero (fronts left) e) ∙ on
      on_at (suc i) l = ap (stop_at c) (iterate_suc (fronts left) i e) ∙ h.goes_on i (omega arith)

      edge_at : (i : ℕ) → i < suc r → is_edge n (iterate (fronts left) (suc i) e) ≡ true
      edge_at zero l = ap (is_edge n) (iterate_suc (fronts left) 0 e ∙ iterate_zero (fronts left) (fronts left e)) ∙ u
      edge_at (suc i) l = ap (is_edge n) (iterate_suc (fronts left) (suc i) e) ∙ h.edges i (omega arith)

  chain_rest : (e v r : ℕ) → Chain n fronts c e v (suc r) → Chain n fronts c (fronts left e) v r
  chain_rest e v r h =
      record {
        goes_on = λ i l. ap (stop_at c) (sym (iterate_suc (fronts left) i e)) ∙ h.goes_on (suc i) (omega arith);
        edges = λ i l. ap (is_edge n) (sym (iterate_suc (fronts left) (suc i) e)) ∙ h.edges (suc i) (omega arith);
        stops = ap (stop_at c) (sym (iterate_suc (fronts left) r e)) ∙ h.stops;
      }

  -- along a chain that fits into the reads left the walk comes to its end
  walk_along : (more e reads v r : ℕ) → r ≤ more → Chain n fronts c e v r → walk n fronts c more e reads ≡ 0 ∷ v ∷ (reads + r) ∷ []
  walk_along more e reads v zero l h =
      walk_at_vertex n fronts c e reads more v (ap (stop_at c) (sym (iterate_zero (fronts left) e)) ∙ h.stops) ∙
      ap (λ (k : ℕ). 0 ∷ v ∷ k ∷ []) (omega arith)
  walk_along more e reads v (suc r) l h =
      let on : stop_at c e ≡ go_on = ap (stop_at c) (sym (iterate_zero (fronts left) e)) ∙ h.goes_on 0 (omega arith) in
      let one : iterate (fronts left) 1 e ≡ fronts left e = iterate_suc (fronts left) 0 e ∙ iterate_zero (fronts left) (fronts left e) in
      let u : is_edge n (fronts left e) ≡ true = ap (is_edge n) (sym one) ∙ h.edges 0 (omega arith) in
      walk_goes_on n fronts c e reads on more (omega arith) u ∙
      walk_along (more - 1) (fronts left e) (reads + 1) v r (omega arith) (chain_rest e v r h) ∙
      ap (λ (k : ℕ). 0 ∷ v ∷ k ∷ []) (omega arith)

  -- a chain from e to v, by which `reads` grow to q, within so many more
  abbrev Walked : ℕ → ℕ → ℕ → ℕ → ℕ → Type 0
  Walked more e reads v q = (r : ℕ) × (q ≡ reads + r) × (r ≤ more) × Chain n fronts c e v r

  walked_none : (more e reads v q w : ℕ) → walk n fronts c more e reads ≡ 0 ∷ v ∷ q ∷ [] → stop_at c e ≡ at_vertex w → Walked more e reads v q
  walked_none more e reads v q w h s =
      let z : 0 ∷ w ∷ reads ∷ [] ≡ 0 ∷ v ∷ q ∷ [] = sym (walk_at_vertex n fronts c e reads more w s) ∙ h in
      let same : w ≡ v = cc in
      let count : reads ≡ q = cc in
      (0, omega arith, omega arith, chain_none e v (s ∙ ap at_vertex same))

  -- where the walk answers a vertex there is such a chain
  walked : (more e reads v q : ℕ) → walk n fronts c more e reads ≡ 0 ∷ v ∷ q ∷ [] → Walked more e reads v q
  walked zero e reads v q h =
      by_stop (stop_at c e) (λ w. walked_none 0 e reads v q w h) (λ s. refused_answers_none 16 v q (sym (walk_spent n fronts c e reads s) ∙ h))
      (λ s. refused_answers_none 16 v q (sym (walk_torn n fronts c e reads 0 s) ∙ h))
  walked (suc more) e reads v q h =
      by_stop (stop_at c e) (λ w. walked_none (suc more) e reads v q w h)
      (λ s.
      by_bool (is_edge n (fronts left e))
      (λ u.
      let less : suc more - 1 ≡ more = omega arith in
      let z = walk_goes_on n fronts c e reads s (suc more) (omega arith) u in
      let y = walked more (fronts left e) (reads + 1) v q (ap (λ (m : ℕ). walk n fronts c m (fronts left e) (reads + 1)) (sym less) ∙ sym z ∙ h) in
      (suc y.0, omega (arith, y.1), omega (arith, y.2), chain_more e v y.0 s u y.3))
      (λ u. refused_answers_none 16 v q (sym (walk_astray n fronts c e reads s (suc more) u) ∙ h)))
      (λ s. refused_answers_none 16 v q (sym (walk_torn n fronts c e reads (suc more) s) ∙ h))

-- the walk's answer carries the number of edges gone on to, and the edges are LeftFront iterated from e
pub walk_chain : (n : ℕ) (fronts : Hand → ℕ → ℕ) (c more e v r : ℕ) → walk n fronts c more e 0 ≡ 0 ∷ v ∷ r ∷ [] → (r ≤ more) × Chain n fronts c e v r
walk_chain n fronts c more e v r h =
    let y = walked n fronts c more e 0 v r h in
    let same : y.0 ≡ r = omega (arith, y.1) in
    (omega (arith, y.2), rw same at y.3)

-- and the converse
pub walk_stops : (n : ℕ) (fronts : Hand → ℕ → ℕ) (c more e v r : ℕ) → r ≤ more
    → ((i : ℕ) → i < r → stop_at c (iterate (fronts left) i e) ≡ go_on)
    → ((i : ℕ) → i < r → is_edge n (iterate (fronts left) (suc i) e) ≡ true)
    → stop_at c (iterate (fronts left) r e) ≡ at_vertex v → walk n fronts c more e 0 ≡ 0 ∷ v ∷ r ∷ []
walk_stops n fronts c more e v r l on es s =
    walk_along n fronts c more e 0 v r l (record { goes_on = on; edges = es; stops = s }) ∙ ap (λ (k : ℕ). 0 ∷ v ∷ k ∷ []) (zero-add r)

-- the same of Target's answer: at most n - 2 edges gone on to
pub target_chain : (n : ℕ) (fronts : Hand → ℕ → ℕ) (j v r : ℕ) → target_answer n fronts j ≡ 0 ∷ v ∷ r ∷ [] → (r ≤ n - 2) × Chain n fronts (colour j) j v r
unfolding target_answer
target_chain n fronts j v r h = walk_chain n fronts (colour j) (n - 2) j v r h

pub target_stops : (n : ℕ) (fronts : Hand → ℕ → ℕ) (j v r : ℕ) → r ≤ n - 2 → Chain n fronts (colour j) j v r → target_answer n fronts j ≡ 0 ∷ v ∷ r ∷ []
unfolding target_answer
target_stops n fronts j v r l h = walk_stops n fronts (colour j) (n - 2) j v r l h.goes_on h.edges h.stops

-- and of the whole question: where it answers a vertex, no refusal came before
answered : (n : ℕ) (lengths known : Bool) (k : ℕ) (a : List ℕ) (v r : ℕ) → asked n lengths known k a ≡ 0 ∷ v ∷ r ∷ [] → a ≡ 0 ∷ v ∷ r ∷ []
answered n lengths known k a v r h =
    by_bool (out_of_range n) (λ e. refused_answers_none 1 v r (rw e at h))
    (λ e.
    by_bool lengths
    (λ l. by_bool known (λ u. rw (e, l, u) at h) (λ u. refused_answers_none k v r (rw (e, l, u) at h)))
    (λ l. refused_answers_none 2 v r (rw (e, l) at h)))

pub question_chain : (n : ℕ) (refs : List ℕ) (j v r : ℕ) → read_target_of n refs j ≡ 0 ∷ v ∷ r ∷ [] → (r ≤ n - 2) × Chain n (fronts_in refs) (colour j) j v r
unfolding read_target_of
question_chain n refs j v r h =
    target_chain n (fronts_in refs) j v r (answered n (references_fit n refs) (is_edge n j) 14 (target_answer n (fronts_in refs) j) v r h)

-- and back, where the sizes and the edge are right
pub question_stops : (n : ℕ) (refs : List ℕ) (j v r : ℕ) → out_of_range n ≡ false → length refs ≡ references_length n → is_edge n j ≡ true
    → r ≤ n - 2 → Chain n (fronts_in refs) (colour j) j v r → read_target_of n refs j ≡ 0 ∷ v ∷ r ∷ []
unfolding read_target_of
question_stops n refs j v r sizes long known l h =
    rw (sizes, eq-eqb (length refs) (references_length n) long, known) (target_stops n (fronts_in refs) j v r l h)
