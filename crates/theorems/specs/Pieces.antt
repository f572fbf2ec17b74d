-- The pieces (SPECIFICATION, section 13). P1 to P10 as one list: what the definitions find, and what they are to find. Then the others.
use Rattle.std.specs.Prelude.{ℕ, ◌+◌, ◌%◌, List, [], ◌∷◌, ◌++◌, drop}
use Rattle.mesh.specs.Search.{gather}
use Rattle.mesh.specs.Verdict.{verdict}
use Rattle.mesh.specs.Wood.{anchor_targets}
use Rattle.mesh.specs.Array.{references_of, service_of}
use Rattle.mesh.specs.Reading.{read_target, read_right_back}

-- a mesh as it is written down: its triangles, and the targets of its inner vertices
pub record Piece : Type 0 where
  pub n : ℕ
  pub triangles : List ℕ
  pub targets : List ℕ

abbrev pub wood : Piece → List ℕ
wood p = anchor_targets ++ p.targets

abbrev pub says : Piece → List ℕ
says p = verdict p.n p.triangles (wood p) ∷ []

abbrev pub target_on : Piece → ℕ → List ℕ
target_on p j = read_target p.n (references_of p.n p.triangles (wood p)) (service_of p.n p.triangles (wood p)) j

abbrev pub right_back_on : Piece → ℕ → List ℕ
right_back_on p j = read_right_back p.n (references_of p.n p.triangles (wood p)) (service_of p.n p.triangles (wood p)) j

abbrev pub four_vertices : Piece
four_vertices = record { n = 4; triangles = 0 ∷ 2 ∷ 1 ∷ 0 ∷ 1 ∷ 3 ∷ 1 ∷ 2 ∷ 3 ∷ 2 ∷ 0 ∷ 3 ∷ []; targets = 0 ∷ 1 ∷ 2 ∷ [] }

-- P7: the targets of vertex 3 written 1, 0, 2
abbrev pub four_turned : Piece
four_turned = record { n = 4; triangles = four_vertices.triangles; targets = 1 ∷ 0 ∷ 2 ∷ [] }

abbrev pub three_vertices : Piece
three_vertices = record { n = 3; triangles = 0 ∷ 1 ∷ 2 ∷ 0 ∷ 2 ∷ 1 ∷ []; targets = [] }

abbrev pub no_vertices : ℕ → Piece
no_vertices n = record { n = n; triangles = []; targets = [] }

-- P8
abbrev pub no_outer : Piece
no_outer = record { n = 4; triangles = 0 ∷ 1 ∷ 2 ∷ 0 ∷ 3 ∷ 1 ∷ 1 ∷ 3 ∷ 2 ∷ 2 ∷ 3 ∷ 0 ∷ []; targets = 0 ∷ 1 ∷ 2 ∷ [] }

abbrev pub six_triangles : List ℕ
six_triangles = 0 ∷ 2 ∷ 1 ∷ 1 ∷ 2 ∷ 3 ∷ 2 ∷ 0 ∷ 3 ∷ 0 ∷ 1 ∷ 4 ∷ 3 ∷ 0 ∷ 4 ∷ 1 ∷ 3 ∷ 5 ∷ 3 ∷ 4 ∷ 5 ∷ 4 ∷ 1 ∷ 5 ∷ []

-- P9
abbrev pub six_vertices : Piece
six_vertices = record { n = 6; triangles = six_triangles; targets = 0 ∷ 1 ∷ 2 ∷ 0 ∷ 1 ∷ 3 ∷ 4 ∷ 1 ∷ 3 ∷ [] }

-- P10: the targets of 5 as 3, 1, 4
abbrev pub six_turned : Piece
six_turned = record { n = 6; triangles = six_triangles; targets = 0 ∷ 1 ∷ 2 ∷ 0 ∷ 1 ∷ 3 ∷ 3 ∷ 1 ∷ 4 ∷ [] }

-- P1 to P10 in order; P5, P6 and P9 say two things each
abbrev pub found : List (List ℕ)
found =
    target_on four_vertices 6 ∷ target_on four_vertices 3 ∷ target_on four_vertices 11 ∷ right_back_on four_vertices 6 ∷
    says three_vertices ∷ target_on three_vertices 6 ∷
    says (no_vertices 2) ∷ says (no_vertices 1025) ∷
    says four_turned ∷ says no_outer ∷
    says six_vertices ∷ target_on six_vertices 17 ∷ says six_turned ∷ []

abbrev pub expected : List (List ℕ)
expected =
    (0 ∷ 0 ∷ 2 ∷ []) ∷ (0 ∷ 0 ∷ 0 ∷ []) ∷ (0 ∷ 2 ∷ 1 ∷ []) ∷ (0 ∷ 7 ∷ []) ∷
    (0 ∷ []) ∷ (0 ∷ 0 ∷ 1 ∷ []) ∷
    (1 ∷ []) ∷ (1 ∷ []) ∷
    (11 ∷ []) ∷ (7 ∷ []) ∷
    (0 ∷ []) ∷ (0 ∷ 3 ∷ 2 ∷ []) ∷ (12 ∷ []) ∷ []

-- a ring apart: seven vertices 3 to 9 in a ring, counted round
abbrev pub raised : ℕ → ℕ
raised i = i % 7 + 3

-- two triangles at each step, and targets one, two and four steps on
abbrev pub ring_triangles : List ℕ
ring_triangles = gather (λ i. raised i ∷ raised (i + 1) ∷ raised (i + 3) ∷ raised i ∷ raised (i + 3) ∷ raised (i + 2) ∷ []) 7

abbrev pub ring_targets : List ℕ
ring_targets = gather (λ i. raised (i + 1) ∷ raised (i + 2) ∷ raised (i + 4) ∷ []) 7

abbrev pub ring_apart : Piece
ring_apart = record { n = 10; triangles = 0 ∷ 1 ∷ 2 ∷ 0 ∷ 2 ∷ 1 ∷ ring_triangles; targets = ring_targets }

-- the same with its first triangle, (3,4,6), made (0,3,4)
abbrev pub ring_torn : Piece
ring_torn = record { n = 10; triangles = 0 ∷ 1 ∷ 2 ∷ 0 ∷ 2 ∷ 1 ∷ 0 ∷ 3 ∷ 4 ∷ drop 3 ring_triangles; targets = ring_targets }

-- an octahedron with poles 0 and 3, its equator a, b, c, d
abbrev pub octahedron : ℕ → ℕ → ℕ → ℕ → List ℕ
octahedron a b c d =
    0 ∷ a ∷ b ∷ 0 ∷ b ∷ c ∷ 0 ∷ c ∷ d ∷ 0 ∷ d ∷ a ∷
    3 ∷ b ∷ a ∷ 3 ∷ c ∷ b ∷ 3 ∷ d ∷ c ∷ 3 ∷ a ∷ d ∷ []

-- two octahedra that have only their poles 0 and 3 in common
abbrev pub two_octahedra : List ℕ
two_octahedra = octahedron 2 1 4 5 ++ octahedron 6 7 8 9
