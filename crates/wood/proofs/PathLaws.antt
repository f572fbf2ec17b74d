-- Walks along one colour. On the way from v a walk knows where each mark comes from (`OnWalk`): from an earlier walk, which ended at the
-- anchor, or from itself, some steps ago. A walk that meets the first ends there too, one that meets itself never ends; and where it
-- ends at the anchor, so does each vertex that it passed.
use Prim.Native.Nat.{ℕ, zero, suc, ◌+◌, ◌*◌, ◌≤◌, ◌<◌}
use mathlib.Core.Path.{◌≡◌, refl, sym, ap, ◌∙◌}
use mathlib.Core.List.{List}
use mathlib.Core.Bool.{Bool, true, false, not}
use mathlib.Core.Logic.{◌≢◌, ◌⊎◌, inl, inr, ⊎_elim}
use native.Mathlib.Omega.{arith}
use native.Mathlib.Nat.{add_comm}
use native.Mathlib.Numerals.{add-one}
use lib.ListN.{length, get_or, set, replicate, length-set, length-replicate}
use lib.Seq.{get_or-set_same, get_or-set_other}
use lib.Dec.{leb, eqb}
use borrow.Author.Tests.{eqb-true, eqb-false, eq-eqb, ne_eqb, le-leb, lt-leb}
use Rattle.mesh.specs.Search.{some, iterate}
use Rattle.std.specs.declared.option.Option.{Option}
use Rattle.std.specs.declared.option.Option.TheVariants.{Some, None}
use Rattle.mesh.specs.Limits.{most_vertices}
use Rattle.mesh.specs.Wood.{target, along}
use Rattle.mesh.specs.Verdict.{path_fault}
use Rattle.mesh.proofs.Tests.{by_bool, and_true, and_of, same_test, by_order}
use Rattle.mesh.proofs.Search.{some_at, some_of}
use Rattle.mesh.proofs.Iterate.{iterate_zero, iterate_step, iterate_add, iterate_fixed, least, least_apart}
use Rattle.mesh.proofs.Paths.{along_anchor, along_inner, path_stays, path_below, ends_in_time}
use Rattle.wood.specs.Paths.{Inside, Marked, Walked, colour_fault}

-- before the first walk
none_at : (m i : ℕ) → ◌≡◌ {A = Option ℕ} (get_or (replicate m None) i None) None
none_at zero i = refl
none_at (suc m) zero = refl
none_at (suc m) (suc i) = none_at m i

pub none_marked : (n : ℕ) (ws : List ℕ) (c v : ℕ) → n ≤ most_vertices → Marked n ws c v (replicate most_vertices None)
none_marked n ws c v l =
    record {
      room = rw length-replicate l;
      earlier = λ w m _ d. absurd (let e = none_at most_vertices w in cc);
      ends = λ w m _ d. absurd (let e = none_at most_vertices w in cc);
    }

-- k steps on from v, at u
pub record OnWalk (n : ℕ) (ws : List ℕ) (c v k u : ℕ) (marks : List (Option ℕ)) : Type 0 where
  pub soon : k ≤ n
  pub inside : u < n
  pub here : u ≡ iterate (along ws c) k v
  pub room : n ≤ length marks
  pub whose : (w m : ℕ) → w < n → get_or marks w None ≡ Some m
      → ((m < v) × (iterate (along ws c) n w ≡ c)) ⊎ ((m ≡ v) × (i : ℕ) × (i < k) × (w ≡ iterate (along ws c) i v))

module _ (n : ℕ) (ws : List ℕ) (c v : ℕ) (T : Inside n ws) (colour : c < 3) (below : v < n) where
  pub walk_begins : (marks : List (Option ℕ)) → Marked n ws c v marks → OnWalk n ws c v 0 v marks
  walk_begins marks M =
      record {
        soon = omega arith;
        inside = below;
        here = sym (iterate_zero (along ws c) v);
        room = M.room;
        whose = λ w m l d. inl (M.earlier w m l d, M.ends w m l d);
      }

  -- what is met on a path that ends at the anchor ends there
  on_path : (i w : ℕ) → w ≡ iterate (along ws c) i v → iterate (along ws c) n v ≡ c → iterate (along ws c) n w ≡ c
  on_path i w e h =
      ap (iterate (along ws c) n) e ∙ sym (iterate_add (along ws c) n i v) ∙ ap (λ (k : ℕ). iterate (along ws c) k v) (add_comm n i) ∙
      iterate_add (along ws c) i n v ∙ ap (iterate (along ws c) i) h ∙ iterate_fixed (along ws c) i c (along_anchor ws c c colour)

  -- a path that comes twice to an inner vertex does not end
  goes_round : (i k : ℕ) → i < k → iterate (along ws c) i v ≡ iterate (along ws c) k v → 3 ≤ iterate (along ws c) k v → iterate (along ws c) n v ≢ c
  goes_round i k l e g h =
      let m = least (along ws c) v c n h in
      let first_there : (m.0 ≤ k) → ⊥ = (λ b. let s = path_stays ws c m.0 k v c m.1 colour b in omega arith) in
      by_order k m.0 (λ b. least_apart (along ws c) v c m.0 m.1 m.2 i k l (omega arith) e) (λ b. first_there (omega arith))
      (λ b. first_there (omega arith))

  module _ (k u : ℕ) (marks : List (Option ℕ)) (W : OnWalk n ws c v k u marks) where
    -- where it ends at the anchor the marks are right for the next walk
    walk_marked : iterate (along ws c) n v ≡ c → Marked n ws c (v + 1) marks
    walk_marked h =
        record {
          room = W.room;
          earlier = λ w m l d. ⊎_elim (λ o. let a = o.0 in omega arith) (λ o. let a = o.0 in omega arith) (W.whose w m l d);
          ends = λ w m l d. ⊎_elim (λ o. o.1) (λ o. on_path o.1 w o.3 h) (W.whose w m l d);
        }

    walk_says : (r : Bool) → r ≡ eqb (iterate (along ws c) n v) c → Walked n ws c v r marks
    walk_says r e = record { answer = e; marked = λ t. walk_marked (eqb-true (iterate (along ws c) n v) c (sym e ∙ t)) }

    -- the three ends: at an anchor, at a mark, after n steps
    pub walk_anchors : u < 3 → Walked n ws c v (eqb u c) marks
    walk_anchors l = walk_says (eqb u c) (ap (λ (x : ℕ). eqb x c) (sym (path_stays ws c k n v u (sym W.here) l W.soon)))

    pub walk_meets : (mark : ℕ) → get_or marks u None ≡ Some mark → 3 ≤ u → Walked n ws c v (not (eqb mark v)) marks
    walk_meets mark e g =
        walk_says (not (eqb mark v))
        (⊎_elim
        (λ o.
        let h : iterate (along ws c) n v ≡ c =
        ends_in_time n ws T c colour (n + k) v below (iterate_add (along ws c) n k v ∙ ap (iterate (along ws c) n) (sym W.here) ∙ o.1) in
        rw (ne_eqb mark v (λ q. let a = o.0 in omega arith), eq-eqb (iterate (along ws c) n v) c h))
        (λ o.
        let h : iterate (along ws c) n v ≢ c =
        goes_round o.1 k o.2 (sym o.3 ∙ W.here) (let a = W.here in omega arith) in
        rw (eq-eqb mark v o.0, ne_eqb (iterate (along ws c) n v) c h))
        (W.whose u mark W.inside e))

    pub walk_whole : n ≤ k → Walked n ws c v (eqb u c) marks
    walk_whole g =
        let s = W.soon in
        let e : k ≡ n = omega arith in
        walk_says (eqb u c) (ap (λ (x : ℕ). eqb x c) (W.here ∙ ap (λ (i : ℕ). iterate (along ws c) i v) e))

    -- one step on: u, which was not marked, gets v's mark
    pub walk_goes_on : (w : ℕ) → k < n → 3 ≤ u → w ≡ target ws (3 * u + c) → OnWalk n ws c v (k + 1) w (set marks u (Some v))
    walk_goes_on w l g r =
        let e : w ≡ iterate (along ws c) (k + 1) v =
        r ∙ sym (along_inner ws c u g) ∙ ap (along ws c) W.here ∙ sym (iterate_step (along ws c) k v) ∙
        ap (λ (i : ℕ). iterate (along ws c) i v) (sym (add-one k)) in
        let room = W.room in
        let inside = W.inside in
        record {
          soon = omega arith;
          inside = rw e (path_below n ws T c colour (k + 1) v below);
          here = e;
          room = simp length-set room;
          whose = λ x m lx d.
              by_bool (eqb x u)
              (λ t.
              let q : x ≡ u = eqb-true x u t in
              let s : get_or (set marks u (Some v)) x None ≡ Some v =
              ap (λ (y : ℕ). get_or (set marks u (Some v)) y None) q ∙ get_or-set_same marks u (Some v) None (omega arith) in
              let e : m ≡ v = cc in
              inr (e, k, omega arith, q ∙ W.here))
              (λ t.
              let same = get_or-set_other marks u x (Some v) None (eqb-false x u t) in
              ⊎_elim (λ o. inl o) (λ o. inr (o.0, o.1, (let a = o.2 in omega arith), o.3)) (W.whose x m lx (sym same ∙ d)));
        }

-- one vertex, by what the walk from it answered
module _ (n : ℕ) (ws : List ℕ) (c v : ℕ) (inner : 3 ≤ v) (ends : Bool) (marks : List (Option ℕ)) (W : Walked n ws c v ends marks) where
  pub colour_found : not ends ≡ true → colour_fault n ws c v ≡ true
  colour_found t = rw (le-leb 3 v inner, ← W.answer) t

  pub colour_passed : not ends ≡ false → colour_fault n ws c v ≡ false
  colour_passed t = rw (le-leb 3 v inner, ← W.answer) t

pub colour_anchor : (n : ℕ) (ws : List ℕ) (c v : ℕ) → v < 3 → colour_fault n ws c v ≡ false
colour_anchor n ws c v l = rw (lt-leb 3 v l)

-- the rule is broken where it is for one colour
pub path_found : (n : ℕ) (ws : List ℕ) (c : ℕ) → c < 3 → some (colour_fault n ws c) n ≡ true → some (path_fault n ws) n ≡ true
unfolding path_fault
path_found n ws c l t =
    let w = some_at (colour_fault n ws c) n t in
    let v : ℕ = w.0 in
    let a = and_true (leb 3 v) (not (eqb (iterate (along ws c) n v) c)) w.2 in
    some_of (path_fault n ws) n v w.1
    (and_of (leb 3 v) (some (λ c. not (eqb (iterate (along ws c) n v) c)) 3) a.0
    (some_of (λ c. not (eqb (iterate (along ws c) n v) c)) 3 c l a.1))

pub path_colours : (n : ℕ) (ws : List ℕ) → some (λ c. some (colour_fault n ws c) n) 3 ≡ some (path_fault n ws) n
unfolding path_fault
path_colours n ws =
    same_test (some (λ c. some (colour_fault n ws c) n) 3) (some (path_fault n ws) n)
    (λ t. let w = some_at (λ c. some (colour_fault n ws c) n) 3 t in path_found n ws w.0 w.1 w.2)
    (λ t.
    let w = some_at (path_fault n ws) n t in
    let v : ℕ = w.0 in
    let a = and_true (leb 3 v) (some (λ c. not (eqb (iterate (along ws c) n v) c)) 3) w.2 in
    let b = some_at (λ c. not (eqb (iterate (along ws c) n v) c)) 3 a.1 in
    let c : ℕ = b.0 in
    some_of (λ c. some (colour_fault n ws c) n) 3 c b.1
    (some_of (colour_fault n ws c) n v w.1 (and_of (leb 3 v) (not (eqb (iterate (along ws c) n v) c)) a.0 b.2)))
