-- `ends` follows the colour and marks what it passes: `OnWalk` is kept from vertex to vertex, and each of its three ends is one law.
use Rattle.wood.proofs.PathLaws.{OnWalk}
use Rattle.wood.proofs.path.Paths.ends.Given as goal

abbrev pub invariant-loop : goal.invariant-loop
invariant-loop l =
    OnWalk l.self.wood.size.vertices l.self.wood.targets.now l.c l.v l.counter l.u l.marks
