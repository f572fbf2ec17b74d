-- Definitions computed on small examples, where a slip in them would show that no law of this crate depends on. Whole meshes are
-- computed by the pieces of crate theorems.
use Prim.Native.Nat.{ℕ}
use mathlib.Core.Path.{◌≡◌, refl}
use mathlib.Core.List.{List, [], ◌∷◌, ◌++◌}
use mathlib.Core.Bool.{true, false}
use lib.ListN.{set, replicate}
use lib.IntN.{pos, negsuc}
use lib.Ieee.{Float, nan, inf, fin}
use Rattle.mesh.specs.Search.{first_from, first, some, iterate, tabulate_from, tabulate}
use Rattle.mesh.specs.Limits.{unused_mark, out_of_range}
use Rattle.mesh.specs.Sides.{next, side_at, third, first_neighbour, meets}
use Rattle.mesh.specs.Wood.{anchor_targets, along}
use Rattle.mesh.specs.Verdict.{turn_fault, anchor_fault, path_fault, verdict}
use Rattle.mesh.specs.Reading.{read_source, read_edge, read_left_back, read_right_back}
use Rattle.mesh.specs.Point.{point_refusal}

-- 1: the fewest and the most vertices, and one fewer and one more
pub sample_sizes : out_of_range 2 ∷ out_of_range 3 ∷ out_of_range 1024 ∷ out_of_range 1025 ∷ [] ≡ true ∷ false ∷ false ∷ true ∷ []
unfolding out_of_range
sample_sizes = refl

-- 8: two triangles back to back on 0, 1, 2 and two on 0, 3, 4: round 0 a turn meets only two of its four triangles; 5 is in none
pub sample_turns : tabulate (turn_fault 6 (third (0 ∷ 1 ∷ 2 ∷ 0 ∷ 2 ∷ 1 ∷ 0 ∷ 3 ∷ 4 ∷ 0 ∷ 4 ∷ 3 ∷ []))) 6 ≡ true ∷ false ∷ false ∷ false ∷ false ∷ true ∷ []
unfolding turn_fault first_from first some iterate tabulate_from tabulate next side_at third first_neighbour meets
sample_turns = refl

-- 11: edges 9, 10, 11 end at 0, 1, 2 as their colours say; the edges 12, 13, 14 at 0, 2, 1 do not
pub sample_anchors : tabulate (anchor_fault (anchor_targets ++ 0 ∷ 1 ∷ 2 ∷ 0 ∷ 2 ∷ 1 ∷ [])) 15
    ≡ false ∷ false ∷ false ∷ false ∷ false ∷ false ∷ false ∷ false ∷ false ∷ false ∷ false ∷ false ∷ false ∷ true ∷ true ∷ []
unfolding tabulate_from tabulate
sample_anchors = refl

-- 13: of 3 and 4 one colour's path runs round between them, whichever colour it is
pub sample_paths :
    path_fault 5 (anchor_targets ++ 0 ∷ 1 ∷ 2 ∷ 0 ∷ 1 ∷ 2 ∷ []) 3 ∷
    path_fault 5 (anchor_targets ++ 4 ∷ 1 ∷ 2 ∷ 3 ∷ 1 ∷ 2 ∷ []) 3 ∷
    path_fault 5 (anchor_targets ++ 0 ∷ 4 ∷ 2 ∷ 0 ∷ 3 ∷ 2 ∷ []) 3 ∷
    path_fault 5 (anchor_targets ++ 0 ∷ 1 ∷ 4 ∷ 0 ∷ 1 ∷ 3 ∷ []) 3 ∷ [] ≡ false ∷ true ∷ true ∷ true ∷ []
unfolding path_fault first_from first some iterate along
sample_paths = refl

-- the order of numbers: 3 before 4, where a corner is too high and two are equal; 4 before 5; 9 before 10, where the wood holds nothing
-- but marks; 10 before 11, where a target is its own source and an anchor's edge has the wrong colour
pub sample_order :
    verdict 3 (0 ∷ 0 ∷ 3 ∷ 0 ∷ 2 ∷ 1 ∷ []) (replicate 9 unused_mark) ∷
    verdict 3 (0 ∷ 0 ∷ 1 ∷ 0 ∷ 0 ∷ 1 ∷ []) (replicate 9 unused_mark) ∷
    verdict 3 (0 ∷ 1 ∷ 2 ∷ 0 ∷ 2 ∷ 1 ∷ []) (replicate 9 unused_mark) ∷
    verdict 4 (0 ∷ 2 ∷ 1 ∷ 0 ∷ 1 ∷ 3 ∷ 1 ∷ 2 ∷ 3 ∷ 2 ∷ 0 ∷ 3 ∷ []) (anchor_targets ++ 3 ∷ 0 ∷ 2 ∷ []) ∷ [] ≡ 3 ∷ 4 ∷ 9 ∷ 10 ∷ []
unfolding verdict
sample_order = refl

-- Source of edges of four vertices: 1 where n is 2, 14 at unused indices and from 12 on, else the vertex
pub sample_source :
    read_source 2 3 ∷ read_source 4 2 ∷ read_source 4 3 ∷ read_source 4 7 ∷ read_source 4 8 ∷ read_source 4 9 ∷ read_source 4 11 ∷ read_source 4 12 ∷ []
    ≡ (1 ∷ []) ∷ (14 ∷ []) ∷ (0 ∷ 1 ∷ []) ∷ (0 ∷ 2 ∷ []) ∷ (14 ∷ []) ∷ (0 ∷ 3 ∷ []) ∷ (0 ∷ 3 ∷ []) ∷ (14 ∷ []) ∷ []
unfolding read_source
sample_source = refl

-- Edge of vertices 0 to 4 of four: vertex 0 gives 3, and 4 is none
pub sample_edge :
    read_edge 2 0 ∷ read_edge 4 0 ∷ read_edge 4 1 ∷ read_edge 4 2 ∷ read_edge 4 3 ∷ read_edge 4 4 ∷ []
    ≡ (1 ∷ []) ∷ (0 ∷ 3 ∷ []) ∷ (0 ∷ 3 ∷ []) ∷ (0 ∷ 6 ∷ []) ∷ (0 ∷ 9 ∷ []) ∷ (15 ∷ []) ∷ []
unfolding read_edge
sample_edge = refl

-- the references of the four-vertex piece, and service bytes of which edge 7's is b
abbrev four_references : List ℕ
four_references = replicate 6 unused_mark ++ 6 ∷ 9 ∷ replicate 4 unused_mark ++ 9 ∷ 3 ∷ 3 ∷ 10 ∷ unused_mark ∷ unused_mark ∷ 3 ∷ 6 ∷ 7 ∷ 3 ∷ 6 ∷ 7 ∷ []

abbrev four_service : ℕ → List ℕ
four_service b = 0 ∷ 0 ∷ 0 ∷ 0 ∷ 0 ∷ 0 ∷ 2 ∷ b ∷ 0 ∷ 3 ∷ 3 ∷ 3 ∷ []

-- a Back by a service byte: edge 9's has both bits set, so its source's other edges are named; edge 7's 1 leads RightBack over the
-- Front, 3 names the source's other edge, and 4 is torn
pub sample_service :
    read_left_back 4 four_references (four_service 1) 9 ∷ read_right_back 4 four_references (four_service 1) 9 ∷
    read_right_back 4 four_references (four_service 1) 7 ∷ read_right_back 4 four_references (four_service 3) 7 ∷
    read_right_back 4 four_references (four_service 4) 7 ∷ []
    ≡ (0 ∷ 10 ∷ []) ∷ (0 ∷ 11 ∷ []) ∷ (0 ∷ 11 ∷ []) ∷ (0 ∷ 6 ∷ []) ∷ (16 ∷ []) ∷ []
unfolding read_left_back read_right_back
sample_service = refl

-- nine coordinates of 1, but x at place k
abbrev coordinates : ℕ → Float → List Float
coordinates k x = set (replicate 9 (fin false 1 (pos 0))) k x

-- Point: 1, 2 and 15; then an answer for 1, minus zero and the smallest subnormal, and 17 for both infinities and a NaN
pub sample_point :
    point_refusal 2 (coordinates 4 nan) 1 ∷
    point_refusal 4 (coordinates 4 nan) 1 ∷
    point_refusal 3 (coordinates 4 nan) 3 ∷
    point_refusal 3 (coordinates 4 (fin false 1 (pos 0))) 1 ∷
    point_refusal 3 (coordinates 4 (fin true 0 (pos 0))) 1 ∷
    point_refusal 3 (coordinates 4 (fin false 1 (negsuc 148))) 1 ∷
    point_refusal 3 (coordinates 4 (inf false)) 1 ∷
    point_refusal 3 (coordinates 4 (inf true)) 1 ∷
    point_refusal 3 (coordinates 4 nan) 1 ∷ []
    ≡ 1 ∷ 2 ∷ 15 ∷ 0 ∷ 0 ∷ 0 ∷ 17 ∷ 17 ∷ 17 ∷ []
unfolding point_refusal
sample_point = refl

-- vertex 1 is places 3, 4 and 5: a NaN there is met, and nowhere else
pub sample_point_places : tabulate (λ k. point_refusal 3 (coordinates k nan) 1) 9 ≡ 0 ∷ 0 ∷ 0 ∷ 17 ∷ 17 ∷ 17 ∷ 0 ∷ 0 ∷ 0 ∷ []
unfolding point_refusal tabulate_from tabulate
sample_point_places = refl
