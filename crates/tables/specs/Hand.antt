-- A hand of the code, as the definitions have it.
use Rattle.mesh.specs.Array.{left, right}
use Rattle.mesh.specs.Array.{Hand as Meant}
use Rattle.tables.specs.declared.hand.Hand.{Hand}
use Rattle.tables.specs.declared.hand.Hand.TheVariants.{Left, Right}

abbrev pub hand_meant : Hand → Meant
hand_meant Left = left
hand_meant Right = right
