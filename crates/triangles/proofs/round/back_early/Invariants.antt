-- `back_early` walks on: after k - 1 steps it is where the walk is, and it was not back yet.
use Prim.Native.Nat.{◌-◌}
use mathlib.Core.Path.{◌≡◌}
use Rattle.mesh.specs.Search.{iterate}
use Rattle.tables.specs.Turning.{turn_in_table}
use Rattle.triangles.proofs.BackLaws.{NotBack}
use Rattle.triangles.proofs.round.back_early.Given as goal

abbrev pub invariant-loop : goal.invariant-loop
invariant-loop l =
    (l.q ≡ iterate (turn_in_table l.twins) (l.counter - 1) l.p) × NotBack (turn_in_table l.twins) l.p l.counter
