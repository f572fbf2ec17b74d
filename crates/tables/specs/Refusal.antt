-- The number of each refusal, the number that a call met, and what a call then leaves in a table that it was lent to fill.
use Rattle.std.specs.Prelude.{ℕ, List, cond, length, replicate, ltb, eqb}
use Rattle.std.specs.declared.result.Result.{Result}
use Rattle.std.specs.declared.result.Result.TheVariants.{Ok, Err}
use Rattle.mesh.specs.Limits.{unused_mark}
use Rattle.tables.specs.declared.refusal.Refusal.{Refusal}
use Rattle.tables.specs.declared.refusal.Refusal.TheVariants.{VertexCount, Length, CornerTooHigh, CornersEqual, SideTwice, SideAlone, OuterMissing, TurnIncomplete, TargetWrong, EdgeWrong, AnchorRule, TurnRule, PathRule, NoEdge, NoVertex, Torn, NotFinite, NoMesh, TextTooLong, NotAText}

abbrev pub number : Refusal → ℕ
number VertexCount = 1
number Length = 2
number CornerTooHigh = 3
number CornersEqual = 4
number SideTwice = 5
number SideAlone = 6
number OuterMissing = 7
number TurnIncomplete = 8
number TargetWrong = 9
number EdgeWrong = 10
number AnchorRule = 11
number TurnRule = 12
number PathRule = 13
number NoEdge = 14
number NoVertex = 15
number Torn = 16
number NotFinite = 17
number NoMesh = 18
number TextTooLong = 19
number NotAText = 20

-- the number that a call met; 0 where it was not refused
abbrev pub number_met : {A : Type 0} → Result A Refusal → ℕ
number_met (Ok a) = 0
number_met (Err r) = number r

-- an output: what it is to hold where the call is done; unchanged where the sizes are wrong (1 and 2); else filled with the mark
abbrev pub leaves : ℕ → List ℕ → List ℕ → List ℕ
leaves met new old = cond (eqb met 0) new (cond (ltb met 3) old (replicate (length old) unused_mark))
