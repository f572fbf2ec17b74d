-- The verdict is a ladder: the number of the first fault that applies, 0 where none does, and no other number. All three are laws of
-- ladders, put to the mesh's; its numbers are above 0 and different by computation.
use Prim.Native.Nat.{ℕ}
use mathlib.Core.Path.{◌≡◌, refl, sym, ◌∙◌}
use mathlib.Core.List.{List, [], ◌∷◌}
use mathlib.Core.Bool.{true}
use mathlib.Core.Logic.{◌≢◌, ◌↔◌}
use Rattle.mesh.specs.Ladder.{numbers, NoneBefore}
use Rattle.mesh.specs.Verdict.{ladder, verdict, Clear}
use Rattle.mesh.proofs.Ladder.{among, proper, first_number, number_first, first_among}
use Rattle.mesh.proofs.Verdict.{verdict_is, verdict_clear, clear_verdict}
use Rattle.theorems.specs.Faults.{fault}

-- the numbers in the order in which they are met
pub ladder_numbers : (n : ℕ) (ts ws : List ℕ) → numbers (ladder n ts ws) ≡ 1 ∷ 2 ∷ 3 ∷ 4 ∷ 5 ∷ 6 ∷ 7 ∷ 8 ∷ 9 ∷ 10 ∷ 11 ∷ 12 ∷ 13 ∷ []
ladder_numbers n ts ws = refl

different : (n : ℕ) (ts ws : List ℕ) → proper (numbers (ladder n ts ws)) ≡ true
unfolding proper among
different n ts ws = refl

-- a verdict of k is that number k applies and none before it
pub verdict_number : (n : ℕ) (ts ws : List ℕ) (k : ℕ) → k ≢ 0 → (verdict n ts ws ≡ k) ↔ ((fault k n ts ws ≡ true) × NoneBefore k (ladder n ts ws))
verdict_number n ts ws k z = (
  λ e. first_number k (ladder n ts ws) (different n ts ws) z (sym (verdict_is n ts ws) ∙ e),
  λ h. verdict_is n ts ws ∙ number_first h.1 h.0,
)

-- a verdict of 0 is that no number applies
pub verdict_none : (n : ℕ) (ts ws : List ℕ) → (verdict n ts ws ≡ 0) ↔ Clear n ts ws
verdict_none n ts ws = (verdict_clear n ts ws, clear_verdict n ts ws)

-- no number but 0 and the ladder's
pub verdict_among : (n : ℕ) (ts ws : List ℕ) → verdict n ts ws ≢ 0 → among (verdict n ts ws) (numbers (ladder n ts ws)) ≡ true
verdict_among n ts ws z = rw (verdict_is n ts ws) (first_among (ladder n ts ws) (rw (verdict_is n ts ws) at z))
