-- Edges that join the same pair: a lower edge that does leaves one of the two ends of the edge, so it is among six.
use Prim.Native.Nat.{ℕ, ◌+◌, ◌*◌, ◌/◌, ◌%◌, ◌<◌}
use mathlib.Core.Path.{◌≡◌, sym, ap, ◌∙◌}
use mathlib.Core.List.{List}
use mathlib.Core.Bool.{Bool, true, ◌&&◌, ◌||◌}
use mathlib.Core.Logic.{◌⊎◌, inl, inr, ⊎_elim}
use native.Mathlib.Omega.{arith}
use lib.Dec.{ltb, eqb}
use borrow.Author.Tests.{eqb-true, lt-ltb, ltb-true}
use Rattle.mesh.specs.Search.{some}
use Rattle.mesh.specs.Wood.{source, target, used, same_pair}
use Rattle.mesh.proofs.Tests.{and_true, and_of, or_true, or_left, or_right, same_test}
use Rattle.mesh.proofs.Search.{some_at, some_of}
use Rattle.wood.specs.Pairs.{joins_before}

-- an edge of the same pair leaves the source or the target
pub pair_source : (ws : List ℕ) (d e : ℕ) → same_pair ws d e ≡ true → (source d ≡ source e) ⊎ (source d ≡ target ws e)
unfolding same_pair
pair_source ws d e t =
    or_true (eqb (source d) (source e) && eqb (target ws d) (target ws e)) (eqb (source d) (target ws e) && eqb (target ws d) (source e)) t
    (λ u. inl (eqb-true (source d) (source e) (and_true (eqb (source d) (source e)) (eqb (target ws d) (target ws e)) u).0))
    (λ u. inr (eqb-true (source d) (target ws e) (and_true (eqb (source d) (target ws e)) (eqb (target ws d) (source e)) u).0))

-- edge c of each of two ends, whose edges begin at the indices out and back
abbrev pub six : List ℕ → ℕ → ℕ → ℕ → ℕ → Bool
six ws e out back c = joins_before ws (out + c) e || joins_before ws (back + c) e

module _ (ws : List ℕ) (e out back : ℕ) (eo : out ≡ 3 * (e / 3)) (eb : back ≡ 3 * target ws e) where
  lower : (d : ℕ) → d < e → (used d && same_pair ws d e) ≡ true → some (six ws e out back) 3 ≡ true
  lower d l u =
      let j : joins_before ws d e ≡ true = and_of (ltb d e) (used d && same_pair ws d e) (lt-ltb d e l) u in
      some_of (six ws e out back) 3 (d % 3) (omega arith)
      (⊎_elim
      (λ (s : d / 3 ≡ e / 3).
      let k : d ≡ out + d % 3 = omega arith in
      or_left (joins_before ws (out + d % 3) e) _ (ap (λ (x : ℕ). joins_before ws x e) (sym k) ∙ j))
      (λ (s : d / 3 ≡ target ws e).
      let k : d ≡ back + d % 3 = omega arith in
      or_right (joins_before ws (out + d % 3) e) _ (ap (λ (x : ℕ). joins_before ws x e) (sym k) ∙ j))
      (pair_source ws d e (and_true (used d) (same_pair ws d e) u).1))

  found : (d : ℕ) → joins_before ws d e ≡ true → some (λ d. used d && same_pair ws d e) e ≡ true
  found d j =
      let a = and_true (ltb d e) (used d && same_pair ws d e) j in
      some_of (λ d. used d && same_pair ws d e) e d (ltb-true d e a.0) a.1

  -- a lower edge that joins the pair is one of the six
  pub among_six : some (six ws e out back) 3 ≡ some (λ d. used d && same_pair ws d e) e
  among_six =
      same_test (some (six ws e out back) 3) (some (λ d. used d && same_pair ws d e) e)
      (λ t.
      let w = some_at (six ws e out back) 3 t in
      or_true (joins_before ws (out + w.0) e) (joins_before ws (back + w.0) e) w.2 (found (out + w.0)) (found (back + w.0)))
      (λ t. let w = some_at (λ d. used d && same_pair ws d e) e t in lower w.0 w.1 w.2)
