-- A wood on a rotation system: each side has a label, seen from the vertex that it leaves. `local` is the law of neighbouring
-- labels; it holds at every side that is not on the outer triangle, anchors included, so no proof above splits inner from anchor.
use Prim.Native.Nat.{ℕ, ◌+◌, ◌*◌, ◌%◌, ◌<◌}
use mathlib.Core.Path.{◌≡◌, refl, sym, ap, ◌∙◌}
use mathlib.Core.Bool.{Bool, true, false}
use mathlib.Core.Logic.{◌≢◌}
use native.Mathlib.Omega.{arith}
use Rattle.mesh.specs.Wood.{Label, out, into, bare, edge_by}
use Rattle.mesh.proofs.TurnRule.{Step, by_label}
use Rattle.theorems.proofs.Rotation.{Rotation, turn, turn_next, to_twin}

-- the same edge seen from its other end
abbrev pub swap : Label → Label
swap (out c) = into c
swap (into c) = out c
swap bare = bare

pub swap_2 : (l : Label) → swap (swap l) ≡ l
swap_2 (out c) = refl
swap_2 (into c) = refl
swap_2 bare = refl

pub record Coloured (R : Rotation) : Type 0 where
  pub label : ℕ → Label
  pub outer : ℕ → Bool
  pub colour_in : (p c : ℕ) → p < R.size → label p ≡ out c → c < 3
  pub flip : (p : ℕ) → p < R.size → label (R.twin p) ≡ swap (label p)
  pub outer_next : (p : ℕ) → p < R.size → outer (R.next p) ≡ outer p
  pub outer3 : (p c : ℕ) → p < R.size → label p ≡ out c → 3 * R.from p + c ≡ 3 → outer p ≡ true
  pub outer7 : (p c : ℕ) → p < R.size → label p ≡ out c → 3 * R.from p + c ≡ 7 → outer p ≡ true
  pub inside : (p c : ℕ) → p < R.size → label p ≡ out c → 3 * R.from p + c ≢ 3 → 3 * R.from p + c ≢ 7 → outer p ≡ false
  pub to3 : (p c : ℕ) → p < R.size → label p ≡ out c → 3 * R.from p + c ≡ 3 → R.from (R.next p) ≡ 0
  pub to7 : (p c : ℕ) → p < R.size → label p ≡ out c → 3 * R.from p + c ≡ 7 → R.from (R.next p) ≡ 1
  pub anchor : (p c : ℕ) → p < R.size → label p ≡ out c → R.from (R.next p) < 3 → c ≡ R.from (R.next p)
  pub local : (p : ℕ) → p < R.size → outer p ≡ false → Step (label p) (label (turn R p))

module _ (R : Rotation) (W : Coloured R) where
  open R use {size, next, twin, from, next_in, next_3, twin_in, twin_2, from_twin, differ}
  open W use {label, outer, colour_in, flip, outer_next, local}

  abbrev pub edge : ℕ → ℕ
  edge p = edge_by (from p) (from (next p)) (label p)

  pub edge_out : (p c : ℕ) → label p ≡ out c → edge p ≡ 3 * from p + c
  edge_out p c e = ap (edge_by (from p) (from (next p))) e

  pub edge_into : (p c : ℕ) → label p ≡ into c → edge p ≡ 3 * from (next p) + c
  edge_into p c e = ap (edge_by (from p) (from (next p))) e

  pub edge_twin : (p : ℕ) → p < size → edge (twin p) ≡ edge p
  edge_twin p l = rw (from_twin p l, to_twin R p l, flip p l) (by_label (label p) (λ c e. rw e) (λ c e. rw e) (λ e. rw e))

  -- round the far end, before a side by which an edge of colour c comes in: another such, or the edge of colour c + 1 that goes out
  pub before_in {ℓ} : {A : Type ℓ} (p c : ℕ) → p < size → outer p ≡ false → label p ≡ out c
      → (label (next p) ≡ into c → A) → (label (next p) ≡ out ((c + 1) % 3) → A) → A
  before_in p c l o e same step =
      let k = colour_in p c l e in
      let s : Step (label (next p)) (into c) = rw (turn_next R p l, flip p l, e) at (local (next p) (next_in p l) (outer_next p l ∙ o)) in
      by_label (label (next p))
      (λ d q. let t : c ≡ (d + 2) % 3 = rw q at s in let kd = colour_in (next p) d (next_in p l) q in
      let r : d ≡ (c + 1) % 3 = omega arith in step (q ∙ ap out r))
      (λ d q. let t : c ≡ d = rw q at s in same (q ∙ ap into (sym t)))
      (λ q. absurd (rw q at s))
