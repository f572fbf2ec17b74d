-- Where a Front stands: the two of edge j are at 2j and behind it, each at its hand's place; and that a hand is fixed by what it means.
use Prim.Native.Nat.{ℕ, ◌+◌, ◌*◌}
use mathlib.Core.Path.{◌≡◌, refl}
use native.Mathlib.Omega.{arith}
use Rattle.mesh.specs.Array.{left, right, front_place}
use Rattle.mesh.specs.Array.{Hand as Meant}
use Rattle.tables.specs.declared.hand.Hand.{Hand}
use Rattle.tables.specs.declared.hand.Hand.TheVariants.{Left, Right}
use Rattle.tables.specs.Hand.{hand_meant}

pub place_of_front : (h : Meant) (j : ℕ) → 2 * j + front_place h 0 ≡ front_place h j
place_of_front left j = omega arith
place_of_front right j = omega arith

-- no two hands of the code mean one
pub hand_once : (g h : Hand) → hand_meant g ≡ hand_meant h → g ≡ h
hand_once Left Left e = refl
hand_once Left Right e = cc
hand_once Right Left e = cc
hand_once Right Right e = refl
