-- The turn rule by sectors. A label and the next keep the rule exactly when each of the three sectors says so: the sector that the
-- label is in says all, the others only that the label is not bare.
use Prim.Native.Nat.{ℕ, ◌+◌, ◌%◌, ◌<◌}
use mathlib.Core.Path.{◌≡◌, refl}
use mathlib.Core.List.{List}
use mathlib.Core.Bool.{Bool, true, false, not, ◌||◌}
use native.Mathlib.Omega.{arith}
use lib.Dec.{eqb}
use borrow.Author.Tests.{eqb-true, eq-eqb}
use Rattle.mesh.specs.Wood.{Label, out, into, bare, label_of}
use Rattle.mesh.proofs.Tests.{by_bool, clash}
use Rattle.mesh.proofs.TurnRule.{Step}
use Rattle.wood.specs.Sectors.{sector_step}
use Rattle.tables.proofs.EdgeLaws.{label_colour, label_small}

-- Labels have colours below 3.
abbrev pub Coloured : Label → Type 0
Coloured l = label_colour l < 3

pub coloured : (ws : List ℕ) (a b : ℕ) → Coloured (label_of ws a b)
coloured ws a b = label_small ws a b

by_sector : (c s : ℕ) (b : Bool) → (s ≡ c → b ≡ true) → (not (eqb s c) || b) ≡ true
by_sector c s b h = by_bool (eqb s c) (λ t. rw t (h (eqb-true s c t))) (λ t. rw t)

-- a step that keeps the rule is fine with each sector
pub step_sector : (c : ℕ) (l m : Label) → c < 3 → Coloured l → Step l m → sector_step c l m ≡ true
step_sector c (out d) (out e) lc k h = by_sector c d (eqb e ((c + 1) % 3)) (λ (q : d ≡ c). eq-eqb e ((c + 1) % 3) (omega arith))
step_sector c (out d) (into e) lc k h = by_sector c d (eqb e ((c + 2) % 3)) (λ (q : d ≡ c). eq-eqb e ((c + 2) % 3) (omega arith))
step_sector c (out d) bare lc k h = absurd h
step_sector c (into d) (out e) lc k h = by_sector c ((d + 1) % 3) (eqb e ((c + 1) % 3)) (λ (q : (d + 1) % 3 ≡ c). eq-eqb e ((c + 1) % 3) (omega arith))
step_sector c (into d) (into e) lc k h = by_sector c ((d + 1) % 3) (eqb e ((c + 2) % 3)) (λ (q : (d + 1) % 3 ≡ c). eq-eqb e ((c + 2) % 3) (omega arith))
step_sector c (into d) bare lc k h = absurd h
step_sector c bare m lc k h = absurd h

-- in its own sector a label says all
own_sector : (s : ℕ) (b : Bool) → (not (eqb s s) || b) ≡ true → b ≡ true
own_sector s b h = rw (eq-eqb s s refl) at h

pub sector_step_holds : (l m : Label) → Coloured l → ((c : ℕ) → c < 3 → sector_step c l m ≡ true) → Step l m
sector_step_holds (out d) (out e) k h = eqb-true e ((d + 1) % 3) (own_sector d _ (h d k))
sector_step_holds (out d) (into e) k h = eqb-true e ((d + 2) % 3) (own_sector d _ (h d k))
sector_step_holds (out d) bare k h = clash false (own_sector d false (h d k)) refl
sector_step_holds (into d) (out e) k h =
    let s : ℕ = (d + 1) % 3 in
    let t = eqb-true e ((s + 1) % 3) (own_sector s _ (h s (omega arith))) in
    omega arith
sector_step_holds (into d) (into e) k h =
    let s : ℕ = (d + 1) % 3 in
    let t = eqb-true e ((s + 2) % 3) (own_sector s _ (h s (omega arith))) in
    omega arith
sector_step_holds (into d) bare k h = clash false (own_sector ((d + 1) % 3) false (h ((d + 1) % 3) (omega arith))) refl
sector_step_holds bare m k h = clash false (h 0 (omega arith)) refl
