-- A ladder: the numbers of refusals in the order in which they are met, each with whether its fault applies. What is answered is the
-- first that applies. The order is the list's alone: a number may be smaller than the one before it.
use Rattle.std.specs.Prelude.{ℕ, ◌≡◌, List, [], ◌∷◌, Bool, false, cond, eqb}

-- a number, and whether its fault applies
pub data Rung : Type 0 where
  rung : ℕ → Bool → Rung

-- the number of the first that applies; 0 where none does
unfoldable pub first_of : List Rung → ℕ
first_of [] = 0
first_of (rung k fault ∷ rest) = let later : ℕ = first_of rest in cond fault k later

-- whether number k's fault applies, wherever it stands
abbrev pub applies : ℕ → List Rung → Bool
applies k [] = false
applies k (rung m fault ∷ rest) = cond (eqb m k) fault (applies k rest)

-- the numbers alone
abbrev pub numbers : List Rung → List ℕ
numbers [] = []
numbers (rung k fault ∷ rest) = k ∷ numbers rest

-- no fault of the ladder applies
pub data NoneApplies : List Rung → Type 0 where
  end : NoneApplies []
  past : {k : ℕ} {fault : Bool} {rest : List Rung} → fault ≡ false → NoneApplies rest → NoneApplies (rung k fault ∷ rest)

-- number k stands in the ladder, and no fault before it applies
pub data NoneBefore (k : ℕ) : List Rung → Type 0 where
  here : {fault : Bool} {rest : List Rung} → NoneBefore k (rung k fault ∷ rest)
  past_one : {m : ℕ} {fault : Bool} {rest : List Rung} → fault ≡ false → NoneBefore k rest → NoneBefore k (rung m fault ∷ rest)
