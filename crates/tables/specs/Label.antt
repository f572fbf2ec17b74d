-- A label of the code, as the definitions have it.
use Rattle.mesh.specs.Wood.{out, into, bare}
use Rattle.mesh.specs.Wood.{Label as Meant}
use Rattle.tables.specs.declared.edge.Label.{Label}
use Rattle.tables.specs.declared.edge.Label.TheVariants.{Out, Into, Bare}

abbrev pub label_meant : Label → Meant
label_meant (Out c) = out c
label_meant (Into c) = into c
label_meant Bare = bare
