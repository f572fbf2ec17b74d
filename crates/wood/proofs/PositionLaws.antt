-- The position of an edge: passing over the sides from the first on, the position of the last side that the edge was seen to run along
-- is the position of its only one.
use Prim.Native.Nat.{ℕ, zero, suc, ◌+◌, ◌*◌, ◌/◌, ◌≤◌, ◌<◌}
use mathlib.Core.Path.{◌≡◌, refl, sym, ap, ◌∙◌}
use mathlib.Core.List.{List}
use mathlib.Core.Bool.{Bool, false, cond, not, ◌&&◌}
use mathlib.Core.Logic.{◌≢◌}
use native.Mathlib.Omega.{arith}
use native.Mathlib.Numerals.{add-one}
use lib.ListN.{length, set, replicate}
use lib.Seq.{get_or-set_same, get_or-set_other}
use lib.Dec.{leb, ltb, eqb}
use borrow.Author.Tests.{ltb-true, ltb-false, eqb-true, eqb-false, lt-ltb, le-ltb, lt-leb, le-leb}
use Rattle.mesh.specs.Search.{lowest}
use Rattle.mesh.specs.Limits.{at, unused_mark}
use Rattle.mesh.specs.Sides.{from, to, is_side, side_at, third, is_neighbour}
use Rattle.mesh.specs.Wood.{source, target, used}
use Rattle.mesh.specs.Verdict.{join_fault}
use Rattle.mesh.proofs.Tests.{by_bool, clash}
use Rattle.mesh.proofs.Search.{first_cong}
use Rattle.mesh.proofs.Positions.{is_side_true, is_side_of, side_at_law}
use Rattle.mesh.specs.Paired.{Paired}
use Rattle.mesh.proofs.Paired.{side_is, neighbour_side, side_neighbour}
use Rattle.tables.specs.Checked.{position_of, PositionTable, Meshed}
use Rattle.tables.proofs.TableLaws.{all_marked}

lowest_cong : (p q : ℕ → Bool) (m : ℕ) → ((k : ℕ) → k < m → p k ≡ q k) → lowest p m ≡ lowest q m
unfolding lowest
lowest_cong p q m h = rw (first_cong p q m h)

-- the side at p, when the edges below e were asked: index i holds p where it is one of them and runs along the side
abbrev pub sided_at : List ℕ → List ℕ → ℕ → List ℕ → ℕ → ℕ → ℕ
sided_at ts ws p before e i = cond (is_side ts (source i) (target ws i) p && ltb i e) p (at before i)

module _ (ts ws : List ℕ) (p : ℕ) (before : List ℕ) (i : ℕ) where
  pub sided_first : (out : ℕ) → out ≡ 3 * from ts p → at before i ≡ sided_at ts ws p before out i
  sided_first out e =
      by_bool (is_side ts (source i) (target ws i) p)
      (λ t. let s = (is_side_true ts (source i) (target ws i) p t).0 in rw (t, le-ltb i out (omega arith)))
      (λ t. rw t)

  pub sided_last : (e : ℕ) → 3 * from ts p + 3 ≤ e → sided_at ts ws p before e i ≡ cond (is_side ts (source i) (target ws i) p) p (at before i)
  sided_last e g =
      by_bool (is_side ts (source i) (target ws i) p)
      (λ t. let s = (is_side_true ts (source i) (target ws i) p t).0 in rw (t, lt-ltb i e (omega arith)))
      (λ t. rw t)

  module _ (l : List ℕ) (e : ℕ) (so_far : at l i ≡ sided_at ts ws p before e i) where
    other : i ≢ e → sided_at ts ws p before e i ≡ sided_at ts ws p before (e + 1) i
    other d =
        ap (λ (b : Bool). cond (is_side ts (source i) (target ws i) p && b) p (at before i))
        (by_bool (ltb i e) (λ t. let a = ltb-true i e t in t ∙ sym (lt-ltb i (e + 1) (omega arith)))
        (λ t. let a = ltb-false i e t in t ∙ sym (le-ltb i (e + 1) (omega arith))))

    pub sided_set : from ts p ≡ e / 3 → target ws e ≡ to ts p → e < length l → at (set l e p) i ≡ sided_at ts ws p before (e + 1) i
    sided_set f t g =
        by_bool (eqb i e)
        (λ u.
        let q : i ≡ e = eqb-true i e u in
        rw (q, is_side_of ts (source e) (target ws e) p f (sym t), lt-ltb e (e + 1) (omega arith)) (get_or-set_same l e p unused_mark g))
        (λ u. let q : i ≢ e = eqb-false i e u in get_or-set_other l e i p unused_mark q ∙ so_far ∙ other q)

    pub sided_kept : target ws e ≢ to ts p → at l i ≡ sided_at ts ws p before (e + 1) i
    sided_kept t =
        by_bool (eqb i e)
        (λ u.
        let q : i ≡ e = eqb-true i e u in
        let z : is_side ts (source i) (target ws i) p ≡ false =
        by_bool (is_side ts (source i) (target ws i) p)
        (λ v. absurd (t (sym (ap (target ws) q) ∙ sym (is_side_true ts (source i) (target ws i) p v).1))) (λ v. v) in
        so_far ∙ rw z)
        (λ u. so_far ∙ other (eqb-false i e u))

-- the last position below k whose side edge e runs along; the mark where there is none
unfoldable pub seen_at : List ℕ → List ℕ → ℕ → ℕ → ℕ
seen_at ts ws e zero = unused_mark
seen_at ts ws e (suc k) = cond (is_side ts (source e) (target ws e) k) k (seen_at ts ws e k)

pub seen_none : (ts ws : List ℕ) (e : ℕ) → seen_at ts ws e 0 ≡ unused_mark
unfolding seen_at
seen_none ts ws e = refl

pub seen_more : (ts ws : List ℕ) (e k before after : ℕ) → after ≡ cond (is_side ts (source e) (target ws e) k) k before
    → before ≡ seen_at ts ws e k → after ≡ seen_at ts ws e (k + 1)
unfolding seen_at
seen_more ts ws e k before after w h = rw (add-one, w, h)

module _ (n : ℕ) (ts ws : List ℕ) (P : Paired n ts) (e : ℕ) where
  only : ℕ
  only = side_at ts (source e) (target ws e)

  seen_is : (k : ℕ) → k ≤ length ts → seen_at ts ws e k ≡ cond (ltb only k) only unused_mark
  unfolding seen_at only
  seen_is zero l = rw (le-ltb only 0 (omega arith))
  seen_is (suc k) l =
      by_bool (is_side ts (source e) (target ws e) k)
      (λ t.
      let s = is_side_true ts (source e) (target ws e) k t in
      let q : only ≡ k = side_is n ts P (source e) (target ws e) k (omega arith) s.0 s.1 in
      rw (t, q, lt-ltb k (suc k) (omega arith)))
      (λ t.
      let q : only ≢ k =
      (λ (x : only ≡ k).
      let s = side_at_law ts (source e) (target ws e) (let y : only < length ts = omega arith in y) in
      clash (is_side ts (source e) (target ws e) k)
      (ap (is_side ts (source e) (target ws e)) (sym x) ∙ is_side_of ts (source e) (target ws e) only s.0 s.1) t) in
      let z : ltb only (suc k) ≡ ltb only k =
      by_bool (ltb only k)
      (λ u. let v = ltb-true only k u in lt-ltb only (suc k) (omega arith) ∙ sym u)
      (λ u. let v = ltb-false only k u in le-ltb only (suc k) (omega arith) ∙ sym u) in
      rw (t, z) (seen_is k (omega arith)))

  -- at the end of the pass it is the edge's position
  pub seen_all : seen_at ts ws e (length ts) ≡ position_of ts ws e
  unfolding position_of only
  seen_all = seen_is (length ts) (omega arith)

-- an edge joins two neighbours exactly where it has a position
pub no_position : (n : ℕ) (ts ws positions : List ℕ) → Meshed n ts → PositionTable n ts ws positions → (e : ℕ) → e < 3 * n
    → leb (length ts) (at positions e) ≡ not (is_neighbour n (third ts) (source e) (target ws e))
unfolding position_of
no_position n ts ws positions M T e l =
    let z = M.triangles_length_holds in
    let m = M.range.not_too_many in
    let a : ℕ = source e in
    let b : ℕ = target ws e in
    by_bool (ltb (side_at ts a b) (length ts))
    (λ t.
    let s = ltb-true (side_at ts a b) (length ts) t in
    let q : at positions e ≡ side_at ts a b = rw t at (T e l) in
    rw (side_neighbour n ts M.paired a b s) (lt-leb (length ts) (at positions e) (omega arith)))
    (λ t.
    let s = ltb-false (side_at ts a b) (length ts) t in
    let q : at positions e ≡ unused_mark = rw t at (T e l) in
    let f : is_neighbour n (third ts) a b ≡ false =
    by_bool (is_neighbour n (third ts) a b)
    (λ u. let v = neighbour_side n ts M.paired (omega arith) a b u in absurd (omega arith)) (λ u. u) in
    rw f (le-leb (length ts) (at positions e) (omega arith)))

pub unplaced : (n : ℕ) (ts ws positions : List ℕ) → Meshed n ts → PositionTable n ts ws positions
    → lowest (λ e. used e && leb (length ts) (at positions e)) (3 * n) ≡ lowest (join_fault n (third ts) ws) (3 * n)
unplaced n ts ws positions M T =
    lowest_cong _ _ (3 * n) (λ e l. ap (λ (b : Bool). used e && b) (no_position n ts ws positions M T e l))

-- before the pass no edge is seen
pub seen_fresh : (ts ws : List ℕ) (e : ℕ) (old fresh : List ℕ) → fresh ≡ replicate (length old) unused_mark → at fresh e ≡ seen_at ts ws e 0
seen_fresh ts ws e old fresh f = ap (λ l. at l e) f ∙ all_marked (length old) e ∙ sym (seen_none ts ws e)
