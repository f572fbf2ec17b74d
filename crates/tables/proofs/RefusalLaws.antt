-- Refusals: no two have one number, so that the number that a call met tells how it ended; and what an output holds, case by case.
use Prim.Native.Nat.{ℕ, ◌-◌, ◌≤◌, ◌<◌}
use mathlib.Core.Path.{◌≡◌, refl, sym, ap, ◌∙◌}
use mathlib.Core.List.{List, [], ◌∷◌}
use mathlib.Core.Logic.{◌≢◌}
use native.Mathlib.Omega.{arith}
use lib.ListN.{length, get_or, replicate}
use Rattle.std.specs.Bool.{⊤}
use borrow.Author.Tests.{ne_eqb, lt-ltb, le-ltb}
use Rattle.std.specs.declared.result.Result.{Result}
use Rattle.std.specs.declared.result.Result.TheVariants.{Ok, Err}
use Rattle.mesh.specs.Limits.{unused_mark}
use Rattle.tables.specs.declared.refusal.Refusal.{Refusal}
use Rattle.tables.specs.declared.refusal.Refusal.TheVariants.{VertexCount, Length, CornerTooHigh, CornersEqual, SideTwice, SideAlone, OuterMissing, TurnIncomplete, TargetWrong, EdgeWrong, AnchorRule, TurnRule, PathRule, NoEdge, NoVertex, Torn, NotFinite, NoMesh, TextTooLong, NotAText}
use Rattle.tables.specs.Refusal.{number, number_met, leaves}

-- all of them, by their numbers
refusals : List Refusal
refusals =
    VertexCount ∷ Length ∷ CornerTooHigh ∷ CornersEqual ∷ SideTwice ∷ SideAlone ∷ OuterMissing ∷ TurnIncomplete ∷ TargetWrong ∷ EdgeWrong ∷ AnchorRule ∷ TurnRule ∷ PathRule ∷ NoEdge ∷ NoVertex ∷ Torn ∷ NotFinite ∷ NoMesh ∷ TextTooLong ∷ NotAText ∷ []

refusal : ℕ → Refusal
refusal k = get_or refusals (k - 1) NotAText

refusal_back : (r : Refusal) → refusal (number r) ≡ r
unfolding refusal refusals
refusal_back VertexCount = refl
refusal_back Length = refl
refusal_back CornerTooHigh = refl
refusal_back CornersEqual = refl
refusal_back SideTwice = refl
refusal_back SideAlone = refl
refusal_back OuterMissing = refl
refusal_back TurnIncomplete = refl
refusal_back TargetWrong = refl
refusal_back EdgeWrong = refl
refusal_back AnchorRule = refl
refusal_back TurnRule = refl
refusal_back PathRule = refl
refusal_back NoEdge = refl
refusal_back NoVertex = refl
refusal_back Torn = refl
refusal_back NotFinite = refl
refusal_back NoMesh = refl
refusal_back TextTooLong = refl
refusal_back NotAText = refl

pub number_above : (r : Refusal) → 0 < number r
number_above VertexCount = omega arith
number_above Length = omega arith
number_above CornerTooHigh = omega arith
number_above CornersEqual = omega arith
number_above SideTwice = omega arith
number_above SideAlone = omega arith
number_above OuterMissing = omega arith
number_above TurnIncomplete = omega arith
number_above TargetWrong = omega arith
number_above EdgeWrong = omega arith
number_above AnchorRule = omega arith
number_above TurnRule = omega arith
number_above PathRule = omega arith
number_above NoEdge = omega arith
number_above NoVertex = omega arith
number_above Torn = omega arith
number_above NotFinite = omega arith
number_above NoMesh = omega arith
number_above TextTooLong = omega arith
number_above NotAText = omega arith

pub number_once : (r s : Refusal) → number r ≡ number s → r ≡ s
number_once r s e = sym (refusal_back r) ∙ ap refusal e ∙ refusal_back s

-- a call that answers nothing else
pub met_once : (r s : Result ⊤ Refusal) → number_met r ≡ number_met s → r ≡ s
met_once (Ok x) (Ok y) e = refl
met_once (Ok x) (Err s) e = absurd (let l = number_above s in omega arith)
met_once (Err r) (Ok y) e = absurd (let l = number_above r in omega arith)
met_once (Err r) (Err s) e = ap Err (number_once r s e)

-- an output of a call that met number k
module _ (k : ℕ) (new old : List ℕ) where
  pub left_filled : k ≡ 0 → leaves k new old ≡ new
  left_filled e = rw e

  pub left_alone : k ≢ 0 → k < 3 → leaves k new old ≡ old
  left_alone d l = rw (ne_eqb k 0 d, lt-ltb k 3 l)

  pub left_marked : 3 ≤ k → leaves k new old ≡ replicate (length old) unused_mark
  left_marked l = rw (ne_eqb k 0 (λ e. omega arith), le-ltb k 3 l)
