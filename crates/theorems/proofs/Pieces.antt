-- The pieces, computed: P1 to P10 as one statement, then the pieces that P does not mark.
use Prim.Native.Nat.{ℕ}
use mathlib.Core.Path.{◌≡◌, refl}
use mathlib.Core.List.{List, [], ◌∷◌}
use lib.ListN.{length}
use Rattle.mesh.specs.Search.{gather_from, gather}
use Rattle.mesh.specs.Limits.{wood_length}
use Rattle.mesh.specs.Verdict.{verdict}
use Rattle.mesh.specs.Array.{references_of, service_of}
use Rattle.mesh.specs.Reading.{read_target, read_right_back}
use Rattle.theorems.specs.Pieces.{found, expected, says, ring_apart, ring_torn, two_octahedra}

-- the ten pieces
pub pieces : found ≡ expected
unfolding verdict references_of service_of read_target read_right_back
pieces = refl

-- every local rule holds and no path ends
pub ring_apart_holds : says ring_apart ≡ 13 ∷ []
unfolding verdict gather gather_from
ring_apart_holds = refl

pub ring_torn_holds : says ring_torn ≡ 6 ∷ []
unfolding verdict gather gather_from
ring_torn_holds = refl

-- whatever the wood, so long as it has the right length
pub two_octahedra_holds : (ws : List ℕ) → length ws ≡ wood_length 10 → verdict 10 two_octahedra ws ≡ 8
unfolding verdict
two_octahedra_holds ws e = rw e
