-- The wood: edge 3i + c leaves vertex i with colour c and ends where the table says.
use Rattle.std.specs.Prelude.{ℕ, suc, ◌+◌, ◌*◌, ◌/◌, ◌%◌, List, [], ◌∷◌, Bool, false, cond, ◌&&◌, ◌||◌, leb, ltb, eqb}
use Rattle.mesh.specs.Search.{first, iterate, tabulate}
use Rattle.mesh.specs.Limits.{at, unused_mark}
use Rattle.mesh.specs.Sides.{turn_length}

abbrev pub source : ℕ → ℕ
source j = j / 3

abbrev pub colour : ℕ → ℕ
colour j = j % 3

abbrev pub target : List ℕ → ℕ → ℕ
target ws j = at ws j

abbrev pub edge_of : ℕ → ℕ → ℕ
edge_of v c = 3 * v + c

-- what the anchors' nine indices hold: edges 3 and 6 end at 0, edge 7 at 1, and the rest are unused
abbrev pub anchor_targets : List ℕ
anchor_targets = unused_mark ∷ unused_mark ∷ unused_mark ∷ 0 ∷ unused_mark ∷ unused_mark ∷ 0 ∷ 1 ∷ unused_mark ∷ []

unfoldable pub used : ℕ → Bool
used j = leb 9 j || (eqb j 3 || (eqb j 6 || eqb j 7))

-- the edges of a mesh of n vertices
abbrev pub is_edge : ℕ → ℕ → Bool
is_edge n j = used j && ltb j (3 * n)

-- the colour of the edge that leaves a for b; 3 where there is none
unfoldable pub colour_to : List ℕ → ℕ → ℕ → ℕ
colour_to ws a b = first (λ c. eqb (target ws (edge_of a c)) b) 3

-- what a neighbour is to the vertex that it is seen from: the end of an edge out of it, the start of one into it, or neither
pub data Label : Type 0 where
  out into : ℕ → Label
  bare : Label

unfoldable pub label_of : List ℕ → ℕ → ℕ → Label
label_of ws a b =
    cond (ltb (colour_to ws a b) 3) (out (colour_to ws a b))
    (cond (ltb (colour_to ws b a) 3) (into (colour_to ws b a)) bare)

abbrev pub edge_by : ℕ → ℕ → Label → ℕ
edge_by a b (out c) = edge_of a c
edge_by a b (into c) = edge_of b c
edge_by a b bare = unused_mark

-- the edge that joins a and b, whichever way it runs; the mark where there is none
unfoldable pub edge_at : List ℕ → ℕ → ℕ → ℕ
edge_at ws a b = edge_by a b (label_of ws a b)

-- the edges d and e join the same pair
unfoldable pub same_pair : List ℕ → ℕ → ℕ → Bool
same_pair ws d e =
    eqb (source d) (source e) && eqb (target ws d) (target ws e) || eqb (source d) (target ws e) && eqb (target ws d) (source e)

-- the turn rule (SPECIFICATION, section 3) of the labels still to come, when s edges out have been met: they come out in the order of
-- their colours, and behind the edge out of colour s - 1 only edges in of colour s + 1 come in
unfoldable pub turn_rule : ℕ → List Label → Bool
turn_rule s [] = eqb s 3
turn_rule s (out c ∷ ls) = eqb c s && turn_rule (suc s) ls
turn_rule s (into c ∷ ls) = ltb 0 s && (eqb c ((s + 1) % 3) && turn_rule s ls)
turn_rule s (bare ∷ ls) = false

-- the labels that one turn round v meets, from its edge of colour 0 on, where x gives the third corners
unfoldable pub labels_round : ℕ → (ℕ → ℕ → ℕ) → List ℕ → ℕ → List Label
labels_round n x ws v =
    let a = target ws (edge_of v 0) in
    tabulate (λ i. label_of ws v (iterate (x v) i a)) (turn_length n x v a)

-- one step along colour c; anchors stay where they are, since a path ends at the first anchor that it meets
unfoldable pub along : List ℕ → ℕ → ℕ → ℕ
along ws c v = cond (ltb v 3) v (target ws (edge_of v c))
