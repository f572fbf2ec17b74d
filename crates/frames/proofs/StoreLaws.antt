-- Stores one after the other: a run of stores can be made in pieces. Pieces stored from a place on, each where the last one ended, are
-- the whole stored there.
use Prim.Native.Nat.{ℕ, suc, ◌+◌, ◌*◌, ◌≤◌}
use native.Mathlib.Nat.{add-zero, add-suc, suc-add, zero-mul, suc-mul}
use native.Mathlib.Numerals.{add-one}
use native.Mathlib.Omega.{arith}
use mathlib.Core.Path.{◌≡◌, refl, sym, ◌∙◌, ap, ap₂, subst}
use mathlib.Core.List.{List, [], ◌∷◌, ◌++◌}
use lib.ListN.{length, set, length-append}
use lib.Seq.{sets, length-sets}
use Rattle.mesh.specs.Search.{gather}
use Rattle.mesh.proofs.Lists.{gather_none, gather_more}
use Rattle.frames.specs.Put.{Stored}

pub sets_more : (vs ws l : List ℕ) (i : ℕ) → sets (sets l i vs) (i + length vs) ws ≡ sets l i (vs ++ ws)
sets_more [] ws l i = ap (λ (j : ℕ). sets l j ws) (add-zero i)
sets_more (v ∷ vs) ws l i =
    ap (λ (j : ℕ). sets (sets (set l i v) (suc i) vs) j ws) (add-suc i (length vs) ∙ sym (suc-add i (length vs))) ∙
    sets_more vs ws (set l i v) (suc i)

pub stored_none : (at : ℕ) (p : List ℕ) → Stored 0 [] at p at p
stored_none at p = record { few = omega arith; after = omega arith; stored = refl }

pub stored_byte : (b at : ℕ) (p : List ℕ) → Stored 1 (b ∷ []) at p (at + 1) (set p at b)
stored_byte b at p = record { few = omega arith; after = refl; stored = refl }

pub stored_as : (m : ℕ) (xs ys : List ℕ) (at next : ℕ) (p q : List ℕ) → xs ≡ ys → Stored m xs at p next q → Stored m ys at p next q
stored_as m xs ys at next p q e s = subst (λ (l : List ℕ). Stored m l at p next q) e s

pub stored_wider : (m k : ℕ) (xs : List ℕ) (at next : ℕ) (p q : List ℕ) → m ≤ k → Stored m xs at p next q → Stored k xs at p next q
stored_wider m k xs at next p q l s = record { few = omega (arith, s.few); after = s.after; stored = s.stored }

pub stored_length : (m : ℕ) (xs : List ℕ) (at next : ℕ) (p q : List ℕ) → Stored m xs at p next q → length q ≡ length p
stored_length m xs at next p q s = ap length s.stored ∙ length-sets p at xs

-- a piece behind another
pub stored_more : (m k : ℕ) (xs ys : List ℕ) (at next end : ℕ) (p q r : List ℕ) → Stored m xs at p next q → Stored k ys next q end r
    → Stored (m + k) (xs ++ ys) at p end r
stored_more m k xs ys at next end p q r s t =
    let l = length-append xs ys in
    record {
      few = omega (arith, s.few, t.few);
      after = omega (arith, s.after, t.after);
      stored = t.stored ∙ ap₂ (λ (q : List ℕ) (i : ℕ). sets q i ys) s.stored s.after ∙ sets_more xs ys p at;
    }

-- lines one after the other from a place on, each of at most w bytes
module _ (w : ℕ) (f : ℕ → List ℕ) (start : ℕ) (out : List ℕ) where
  pub lines_none : Stored (0 * w) (gather f 0) start out start out
  lines_none = rw (zero-mul w) (stored_as 0 [] (gather f 0) start start out out (sym (gather_none f)) (stored_none start out))

  pub lines_more : (j at next : ℕ) (p q : List ℕ) → Stored (j * w) (gather f j) start out at p → Stored w (f j) at p next q
      → Stored ((j + 1) * w) (gather f (j + 1)) start out next q
  lines_more j at next p q s t =
      let e : j * w + w ≡ (j + 1) * w = sym (rw add-one (suc-mul j w)) in
      subst (λ (m : ℕ). Stored m (gather f (j + 1)) start out next q) e
      (stored_as (j * w + w) (gather f j ++ f j) (gather f (j + 1)) start next out q (sym (gather_more f j))
      (stored_more (j * w) w (gather f j) (f j) start at next out p q s t))
