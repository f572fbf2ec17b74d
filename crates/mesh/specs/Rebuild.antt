-- The rebuild, from n and the references alone: decode the wood by Target, the triangles by the Fronts, then check and compare.
use Rattle.std.specs.Prelude.{ℕ, ◌/◌, List, [], ◌∷◌, Bool, true, false, cond, ◌&&◌, ltb, eqb}
use Rattle.mesh.specs.Search.{first, first_from, tabulate, tabulate_from, gather, gather_from}
use Rattle.mesh.specs.Limits.{at, unused_mark, wood_length, references_length}
use Rattle.mesh.specs.Wood.{source, target, used, colour_to, label_of, edge_at}
use Rattle.mesh.specs.Verdict.{verdict}
use Rattle.mesh.specs.Array.{Hand, left, right, front_place, hand_at, references_of}
use Rattle.mesh.specs.Reading.{fronts_in, target_answer}

-- the vertex of Target's answer; the mark where it is refused
abbrev pub vertex_of : List ℕ → ℕ
vertex_of [] = unused_mark
vertex_of (k ∷ []) = unused_mark
vertex_of (k ∷ v ∷ rest) = v

unfoldable pub rebuilt_target : ℕ → List ℕ → ℕ → ℕ
rebuilt_target n refs j = cond (used j) (vertex_of (target_answer n (fronts_in refs) j)) unused_mark

unfoldable pub rebuilt_wood : ℕ → List ℕ → List ℕ
unfolding rebuilt_target target_answer tabulate_from tabulate used
rebuilt_wood n refs = tabulate (rebuilt_target n refs) (wood_length n)

-- the end of the edge f that is not v
unfoldable pub other_end : List ℕ → ℕ → ℕ → ℕ
other_end ws f v = cond (eqb (source f) v) (target ws f) (source f)

-- the triangle on that hand of j: its third corner, from its Front, and whether j has the smallest index among its three edges
unfoldable pub corner_beside : Hand → List ℕ → List ℕ → ℕ → ℕ
corner_beside h refs ws j = other_end ws (at refs (front_place h j)) (target ws j)

unfoldable pub is_lowest : Hand → List ℕ → List ℕ → ℕ → Bool
is_lowest h refs ws j = ltb j (at refs (front_place h j)) && ltb j (edge_at ws (source j) (corner_beside h refs ws j))

-- the triangle beside j with its edge first: along it on the left, against it on the right
abbrev pub triangle_beside : Hand → List ℕ → List ℕ → ℕ → List ℕ
triangle_beside left refs ws j = source j ∷ target ws j ∷ corner_beside left refs ws j ∷ []
triangle_beside right refs ws j = target ws j ∷ source j ∷ corner_beside right refs ws j ∷ []

-- what is written at place i of the references, edge i / 2 with its left before its right: a triangle, or nothing
unfoldable pub written_at : List ℕ → List ℕ → ℕ → List ℕ
written_at refs ws i =
    cond (used (i / 2) && is_lowest (hand_at i) refs ws (i / 2)) (triangle_beside (hand_at i) refs ws (i / 2)) []

unfoldable pub triangles_from : ℕ → List ℕ → List ℕ → List ℕ
triangles_from n refs ws = gather (written_at refs ws) (references_length n)

-- all that is written, by ascending edge and the left before the right (SPECIFICATION, section 9)
unfoldable pub rebuilt_triangles : ℕ → List ℕ → List ℕ
unfolding triangles_from written_at is_lowest corner_beside other_end rebuilt_wood gather_from gather first first_from colour_to label_of edge_at used
rebuilt_triangles n refs = let ws = rebuilt_wood n refs in triangles_from n refs ws

unfoldable pub same_list : List ℕ → List ℕ → Bool
same_list [] [] = true
same_list [] (y ∷ ys) = false
same_list (x ∷ xs) [] = false
same_list (x ∷ xs) (y ∷ ys) = eqb x y && same_list xs ys

-- 0 where the decoded mesh is accepted and has these references; 18 where it does not, and then no accepted mesh has them
unfoldable pub rebuild_says : ℕ → List ℕ → ℕ
unfolding rebuilt_wood rebuilt_triangles verdict references_of same_list
rebuild_says n refs =
    let ws = rebuilt_wood n refs in
    let ts = triangles_from n refs ws in
    let same = same_list (references_of n ts ws) refs in
    cond (eqb (verdict n ts ws) 0) (cond same 0 18) 18
