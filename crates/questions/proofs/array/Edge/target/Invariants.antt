-- The loop's invariant: the edge is one of the same array, the whole walk is what is left of it from here, and of the n - 2 reads
-- those made are gone.
use Prim.Native.Nat.{◌-◌}
use mathlib.Core.Path.{◌≡◌}
use Rattle.mesh.specs.Wood.{colour}
use Rattle.mesh.specs.Reading.{fronts_in, walk, target_answer}
use Rattle.questions.proofs.array.Edge.target.Given as goal

abbrev pub invariant-loop-reads : goal.invariant-loop-reads
invariant-loop-reads l =
    let n = l.self.references.size.vertices in
    let fronts = fronts_in l.self.references.fronts.now in
    (l.edge.references.size.vertices ≡ n) × (l.edge.references.fronts.now ≡ l.self.references.fronts.now)
    × (target_answer n fronts l.self.index ≡ walk n fronts (colour l.self.index) (n - 2 - l.reads) l.edge.index l.reads)
