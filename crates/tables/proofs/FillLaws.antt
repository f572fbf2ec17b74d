-- A loop that writes a table from its front, one place a turn: what the places passed hold, and the list that they are at its end.
use Prim.Native.Nat.{ℕ, ◌<◌, ◌≤◌}
use native.Mathlib.Omega.{arith}
use mathlib.Core.Path.{◌≡◌, ◌∙◌}
use mathlib.Core.List.{List}
use lib.ListN.{length}
use Rattle.std.specs.List.{HoldsAt}
use Rattle.mesh.specs.Search.{tabulate}
use Rattle.mesh.proofs.Lists.{tabulate_is}

-- each of the first m places holds what g gives for it
abbrev pub FilledBelow : (ℕ → ℕ) → ℕ → List ℕ → Type 0
FilledBelow g m table = (k : ℕ) → k < m → HoldsAt (λ y. y ≡ g k) table k

-- at the loop's end i has come to the table's length, which is m
pub filled_tabulate : (g : ℕ → ℕ) (m : ℕ) (table old : List ℕ) (i : ℕ) → length table ≡ length old → length old ≤ i → length old ≡ m
    → FilledBelow g i table → table ≡ tabulate g m
filled_tabulate g m table old i e end long filled =
    tabulate_is g m table 0 (e ∙ long) (λ k l. filled k (omega arith) 0)
