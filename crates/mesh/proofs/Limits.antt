-- Number 1 and the range that it leaves, both ways.
use Prim.Native.Nat.{ℕ}
use mathlib.Core.Path.{◌≡◌}
use mathlib.Core.Bool.{false}
use lib.Dec.{ltb}
use borrow.Author.Tests.{ltb-false, le-ltb}
use Rattle.mesh.specs.Limits.{fewest_vertices, most_vertices, out_of_range, InRange}
use Rattle.mesh.proofs.Tests.{or_false, or_none}

pub in_range : (n : ℕ) → out_of_range n ≡ false → InRange n
unfolding out_of_range
in_range n e =
    let a = or_false (ltb n fewest_vertices) (ltb most_vertices n) e in
    record { enough = ltb-false n fewest_vertices a.0; not_too_many = ltb-false most_vertices n a.1 }

pub range_in : (n : ℕ) → InRange n → out_of_range n ≡ false
unfolding out_of_range
range_in n r = or_none (ltb n fewest_vertices) (ltb most_vertices n) (le-ltb n fewest_vertices r.enough) (le-ltb most_vertices n r.not_too_many)
