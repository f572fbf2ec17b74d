-- The order that the questions about an edge share: 1 and 2 are answered before the edge is looked at, then 14.
use Prim.Native.Nat.{ℕ}
use native.Mathlib.Omega.{arith}
use mathlib.Core.Path.{◌≡◌, ap, ◌∙◌}
use mathlib.Core.List.{List}
use mathlib.Core.Bool.{Bool}
use Rattle.std.specs.declared.result.Result.{Result}
use Rattle.std.specs.declared.result.Result.TheVariants.{Err}
use Rattle.mesh.specs.Wood.{is_edge}
use Rattle.mesh.specs.Reading.{asked}
use Rattle.tables.specs.declared.refusal.Refusal.{Refusal}
use Rattle.tables.specs.Refusal.{number}
use Rattle.tables.proofs.RefusalLaws.{number_above}
use Rattle.questions.specs.Order.{edge_met}
use Rattle.questions.specs.Answers.{listed}

pub asked_refuses : (n : ℕ) (fits : Bool) (j : ℕ) (answer : List ℕ) (a : Result ℕ Refusal) (r : Refusal) → a ≡ Err r
    → number r ≡ edge_met n fits j → listed a ≡ asked n fits (is_edge n j) 14 answer
asked_refuses n fits j answer a r is e = ap listed is ∙ grind (arith, number_above)
