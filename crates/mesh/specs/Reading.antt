-- The questions, put to any array, built or torn. An answer is a list: 0 and the values, or the refusal's number alone.
-- How a Front and a service byte are read is an argument of each reading (`fronts`, `bytes`): another layout of the same array is
-- another reader, and the readings stay.
use Rattle.std.specs.Prelude.{ℕ, zero, suc, ◌+◌, ◌-◌, ◌*◌, ◌/◌, ◌%◌, ◌<◌, ◌≡◌, List, [], ◌∷◌, Bool, true, cond, not, ◌&&◌, length, leb, ltb, eqb}
use Rattle.mesh.specs.Search.{iterate}
use Rattle.mesh.specs.Limits.{at, most_service, out_of_range, references_length, service_length}
use Rattle.mesh.specs.Wood.{source, colour, edge_of, used, is_edge}
use Rattle.mesh.specs.Array.{Hand, left, right, front_place}

abbrev pub refused : ℕ → List ℕ
refused k = k ∷ []

abbrev pub torn : List ℕ
torn = refused 16

-- what an answer is, once the size and what is asked about are right: 1, then 2, then k (14 or 15) come before it
abbrev pub asked : ℕ → Bool → Bool → ℕ → List ℕ → List ℕ
asked n lengths known k answer = cond (out_of_range n) (refused 1) (cond (not lengths) (refused 2) (cond (not known) (refused k) answer))

-- an index as the answer: torn where it is no edge of a mesh of n vertices
unfoldable pub edge_answer : ℕ → ℕ → List ℕ
edge_answer n e = cond (is_edge n e) (0 ∷ e ∷ []) torn

-- Source: the vertex that an edge leaves
unfoldable pub read_source : ℕ → ℕ → List ℕ
unfolding out_of_range used
read_source n j = cond (out_of_range n) (refused 1) (cond (not (is_edge n j)) (refused 14) (0 ∷ source j ∷ []))

-- Edge: a vertex's edge of colour 0; vertex 0 has none and gives 3, which ends there
unfoldable pub edge_of_vertex : ℕ → ℕ
edge_of_vertex u = cond (eqb u 0) 3 (3 * u)

unfoldable pub read_edge : ℕ → ℕ → List ℕ
unfolding out_of_range edge_of_vertex
read_edge n u = cond (out_of_range n) (refused 1) (cond (leb n u) (refused 15) (0 ∷ edge_of_vertex u ∷ []))

-- the reader of references and service bytes as two tables
abbrev pub fronts_in : List ℕ → Hand → ℕ → ℕ
fronts_in refs h j = at refs (front_place h j)

abbrev pub bytes_in : List ℕ → ℕ → ℕ
bytes_in service j = at service j

-- a Front, as it is read
unfoldable pub front_answer : Hand → ℕ → (Hand → ℕ → ℕ) → ℕ → List ℕ
unfolding edge_answer
front_answer h n fronts j = edge_answer n (fronts h j)

-- Back. Three of them lie on the outer triangle, where the colour rules do not hold: LeftBack of 3 and of 7, RightBack of 6; 0 elsewhere
unfoldable pub outer_back : Hand → ℕ → ℕ
outer_back left j = cond (eqb j 3) 7 (cond (eqb j 7) 6 0)
outer_back right j = cond (eqb j 6) 7 0

-- the hand's bit of a service byte: bit 0 on the left, bit 1 on the right
abbrev pub bit_of : Hand → ℕ → ℕ
bit_of left byte = byte % 2
bit_of right byte = byte / 2 % 2

-- how many colours on the source's other edge on that hand is: one on the left, two on the right
abbrev pub step_of : Hand → ℕ
step_of left = 1
step_of right = 2

-- with the bit set, that other edge of the source
abbrev pub beside_source : Hand → ℕ → ℕ
beside_source h j = edge_of (source j) ((colour j + step_of h) % 3)

-- with the bit clear and the edge f as the Front of j: where f has the colour of j, the edge of f's source that is two steps on;
-- where it is one step on, the Front of f; torn otherwise
unfoldable pub back_by_front : Hand → ℕ → (Hand → ℕ → ℕ) → ℕ → ℕ → List ℕ
unfolding edge_answer
back_by_front h n fronts j f =
    cond (eqb (colour f) (colour j)) (edge_answer n (edge_of (source f) ((colour j + 2 * step_of h) % 3)))
    (cond (eqb (colour f) ((colour j + step_of h) % 3)) (edge_answer n (fronts h f)) torn)

-- Back where the colour rules hold
unfoldable pub inner_back : Hand → ℕ → (Hand → ℕ → ℕ) → ℕ → ℕ → List ℕ
unfolding back_by_front edge_answer
inner_back h n fronts byte j =
    let f = fronts h j in
    cond (ltb most_service byte) torn
    (cond (eqb (bit_of h byte) 1) (edge_answer n (beside_source h j)) (cond (is_edge n f) (back_by_front h n fronts j f) torn))

unfoldable pub back_answer : Hand → ℕ → (Hand → ℕ → ℕ) → (ℕ → ℕ) → ℕ → List ℕ
unfolding inner_back outer_back
back_answer h n fronts bytes j =
    let inner = inner_back h n fronts (bytes j) j in
    cond (eqb (outer_back h j) 0) inner (0 ∷ outer_back h j ∷ [])

-- Target. What the walk of colour c does at edge e: it stops at 3 and 7, and at an edge one colour on; it goes on along its own
-- colour; anything else is torn. The tests for 3 and 7 come first.
pub data Stop : Type 0 where
  at_vertex : ℕ → Stop
  go_on : Stop
  is_torn : Stop

unfoldable pub stop_at : ℕ → ℕ → Stop
stop_at c e =
    cond (eqb e 3) (at_vertex 0)
    (cond (eqb e 7) (at_vertex 1)
    (cond (eqb (colour e) ((c + 1) % 3)) (at_vertex (source e))
    (cond (eqb (colour e) c) go_on is_torn)))

abbrev pub after_stop : Stop → ℕ → List ℕ → List ℕ
after_stop (at_vertex v) reads rest = 0 ∷ v ∷ reads ∷ []
after_stop go_on reads rest = rest
after_stop is_torn reads rest = torn

-- the walk that stands at e after so many reads and may read `more` more
unfoldable pub walk : ℕ → (Hand → ℕ → ℕ) → ℕ → ℕ → ℕ → ℕ → List ℕ
walk n fronts c zero e reads = after_stop (stop_at c e) reads torn
walk n fronts c (suc more) e reads =
    let f = fronts left e in
    let rest = cond (is_edge n f) (walk n fronts c more f (reads + 1)) torn in
    after_stop (stop_at c e) reads rest

-- it starts at the edge asked about and may read n - 2 LeftFronts; the answer carries how many it read
unfoldable pub target_answer : ℕ → (Hand → ℕ → ℕ) → ℕ → List ℕ
unfolding walk stop_at
target_answer n fronts j = walk n fronts (colour j) (n - 2) j 0

-- the chain of edges from e that a walk of colour c goes along: r edges gone on to, each by LeftFront, and a stop at v
pub record Chain (n : ℕ) (fronts : Hand → ℕ → ℕ) (c e v r : ℕ) : Type 0 where
  pub goes_on : (i : ℕ) → i < r → stop_at c (iterate (fronts left) i e) ≡ go_on
  pub edges : (i : ℕ) → i < r → is_edge n (iterate (fronts left) (suc i) e) ≡ true
  pub stops : stop_at c (iterate (fronts left) r e) ≡ at_vertex v

-- The questions over references and service bytes. A question tests only the tables that it takes.
abbrev pub references_fit : ℕ → List ℕ → Bool
references_fit n refs = eqb (length refs) (references_length n)

abbrev pub array_fits : ℕ → List ℕ → List ℕ → Bool
array_fits n refs service = references_fit n refs && eqb (length service) (service_length n)

unfoldable pub read_front : Hand → ℕ → List ℕ → ℕ → List ℕ
unfolding out_of_range front_answer used
read_front h n refs j = let a = front_answer h n (fronts_in refs) j in asked n (references_fit n refs) (is_edge n j) 14 a

unfoldable pub read_back : Hand → ℕ → List ℕ → List ℕ → ℕ → List ℕ
unfolding out_of_range back_answer used
read_back h n refs service j =
    let a = back_answer h n (fronts_in refs) (bytes_in service) j in asked n (array_fits n refs service) (is_edge n j) 14 a

unfoldable pub read_target_of : ℕ → List ℕ → ℕ → List ℕ
unfolding out_of_range target_answer used
read_target_of n refs j = let a = target_answer n (fronts_in refs) j in asked n (references_fit n refs) (is_edge n j) 14 a

-- The five of them under their own names, over n, references, service bytes and edge. Target and the Fronts take no service bytes.
unfoldable pub read_target : ℕ → List ℕ → List ℕ → ℕ → List ℕ
unfolding read_target_of
read_target n refs service j = read_target_of n refs j

unfoldable pub read_left_front : ℕ → List ℕ → List ℕ → ℕ → List ℕ
unfolding read_front
read_left_front n refs service j = read_front left n refs j

unfoldable pub read_right_front : ℕ → List ℕ → List ℕ → ℕ → List ℕ
unfolding read_front
read_right_front n refs service j = read_front right n refs j

unfoldable pub read_left_back : ℕ → List ℕ → List ℕ → ℕ → List ℕ
unfolding read_back
read_left_back n refs service j = read_back left n refs service j

unfoldable pub read_right_back : ℕ → List ℕ → List ℕ → ℕ → List ℕ
unfolding read_back
read_right_back n refs service j = read_back right n refs service j
