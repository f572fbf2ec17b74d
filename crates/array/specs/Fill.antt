-- What a used edge of an accepted mesh leads to: the vertices at its ends, the corners on its hands, its neighbouring edges.
use Rattle.std.specs.Prelude.{ℕ}
use Rattle.mesh.specs.Sides.{third}
use Rattle.mesh.specs.Wood.{source, target}
use Rattle.mesh.specs.Array.{Hand, corner_on, front, back}
use Rattle.array.specs.declared.accepted.Edge.{Edge}
use Rattle.array.specs.declared.fill.End.{End}
use Rattle.array.specs.declared.fill.End.TheVariants.{Source, Target}

abbrev pub vertex_at : Edge → End → ℕ
vertex_at e Source = source e.index
vertex_at e Target = target e.mesh.sided.wood.now e.index

abbrev pub corner_at : Edge → Hand → ℕ
corner_at e h = corner_on h (third e.mesh.sided.triangles.now) (source e.index) (target e.mesh.sided.wood.now e.index)

-- a Back at the source, a Front at the target
abbrev pub neighbour_at : Edge → End → Hand → ℕ
neighbour_at e Source h = back h (third e.mesh.sided.triangles.now) e.mesh.sided.wood.now e.index
neighbour_at e Target h = front h (third e.mesh.sided.triangles.now) e.mesh.sided.wood.now e.index
