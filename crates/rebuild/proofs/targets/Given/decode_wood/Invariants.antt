-- The places passed hold the targets that the references tell of.
use Rattle.mesh.specs.Rebuild.{rebuilt_target}
use Rattle.tables.proofs.FillLaws.{FilledBelow}
use Rattle.rebuild.proofs.targets.Given.decode_wood.Given as goal

abbrev pub invariant-loop-j : goal.invariant-loop-j
invariant-loop-j l = FilledBelow (rebuilt_target l.self.size.vertices l.self.references.now) l.j l.wood
