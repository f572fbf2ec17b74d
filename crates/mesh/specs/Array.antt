-- The array of a mesh, as the triangles give it: references and service bytes.
use Rattle.std.specs.Prelude.{ℕ, ◌+◌, ◌*◌, ◌/◌, ◌%◌, List, cond, eqb}
use Rattle.mesh.specs.Search.{first_from, first, tabulate_from, tabulate}
use Rattle.mesh.specs.Limits.{unused_mark, references_length, service_length}
use Rattle.mesh.specs.Sides.{next, side_at, third}
use Rattle.mesh.specs.Wood.{source, target, used, colour_to, label_of, edge_at}

pub data Hand : Type 0 where
  left right : Hand

-- the place of an edge's Front in the references: two to an edge, the left before the right
abbrev pub front_place : Hand → ℕ → ℕ
front_place left j = 2 * j
front_place right j = 2 * j + 1

abbrev pub hand_at : ℕ → Hand
hand_at i = cond (eqb (i % 2) 0) left right

-- the third corner beside the edge from u to v: of the triangle with that side on the left, with the reverse side on the right
abbrev pub corner_on : Hand → (ℕ → ℕ → ℕ) → ℕ → ℕ → ℕ
corner_on left x u v = x u v
corner_on right x u v = x v u

-- the Front joins the edge's target with that corner
unfoldable pub front : Hand → (ℕ → ℕ → ℕ) → List ℕ → ℕ → ℕ
front h x ws j = edge_at ws (target ws j) (corner_on h x (source j) (target ws j))

-- the Back joins the edge's source with it
unfoldable pub back : Hand → (ℕ → ℕ → ℕ) → List ℕ → ℕ → ℕ
back h x ws j = edge_at ws (source j) (corner_on h x (source j) (target ws j))

-- what a place holds: the mark where the edge is unused
unfoldable pub reference_at : (ℕ → ℕ → ℕ) → List ℕ → ℕ → ℕ
reference_at x ws i = cond (used (i / 2)) (front (hand_at i) x ws (i / 2)) unused_mark

-- whether j and its Back on that hand have the same source, as a bit
unfoldable pub same_source : Hand → (ℕ → ℕ → ℕ) → List ℕ → ℕ → ℕ
same_source h x ws j = cond (eqb (source (back h x ws j)) (source j)) 1 0

-- the two bits of edge j, the left's below the right's; 0 where the edge is unused
unfoldable pub service_at : (ℕ → ℕ → ℕ) → List ℕ → ℕ → ℕ
service_at x ws j = cond (used j) (same_source left x ws j + 2 * same_source right x ws j) 0

unfoldable pub references_by : ℕ → (ℕ → ℕ → ℕ) → List ℕ → List ℕ
references_by n x ws = tabulate (reference_at x ws) (references_length n)

-- the references and the service bytes of a mesh of n vertices with triangles ts and wood ws
unfoldable pub references_of : ℕ → List ℕ → List ℕ → List ℕ
unfolding references_by reference_at front first_from first tabulate_from tabulate next side_at third used colour_to label_of edge_at
references_of n ts ws = references_by n (third ts) ws

unfoldable pub service_of : ℕ → List ℕ → List ℕ → List ℕ
unfolding service_at same_source back first_from first tabulate_from tabulate next side_at third used colour_to label_of edge_at
service_of n ts ws = tabulate (service_at (third ts) ws) (service_length n)
