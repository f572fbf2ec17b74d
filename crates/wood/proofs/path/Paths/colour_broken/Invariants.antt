-- `colour_broken` keeps its marks right: each vertex that it has passed ends at the anchor.
use Prim.Native.Nat.{ℕ, ◌<◌}
use mathlib.Core.Path.{◌≡◌}
use mathlib.Core.Bool.{false}
use Rattle.wood.specs.Paths.{Marked, colour_fault}
use Rattle.wood.proofs.path.Paths.colour_broken.Given as goal

abbrev pub invariant-loop-v : goal.invariant-loop-v
invariant-loop-v l =
    let n = l.self.wood.size.vertices in
    let ws = l.self.wood.targets.now in
    Marked n ws l.c l.v l.marks × ((k : ℕ) → k < l.v → colour_fault n ws l.c k ≡ false)
