-- Numbers 1 to 13 (SPECIFICATION, section 4). Each fault is that some place below a bound is at fault, so its lowest place is a search
-- too; each is over the whole input, and the ladders at the end put them in order.
use Rattle.std.specs.Prelude.{ℕ, ◌*◌, List, [], ◌∷◌, ◌++◌, Bool, not, ◌&&◌, ◌||◌, length, leb, ltb, eqb}
use Rattle.mesh.specs.Search.{first_from, first, some, iterate, tabulate_from, tabulate}
use Rattle.mesh.specs.Limits.{at, out_of_range, triangles_length, wood_length}
use Rattle.mesh.specs.Sides.{next, from, to, side_at, third, is_neighbour, first_neighbour, meets, turn_length}
use Rattle.mesh.specs.Ladder.{Rung, rung, first_of, NoneApplies}
use Rattle.mesh.specs.Wood.{source, colour, target, anchor_targets, used, colour_to, label_of, same_pair, turn_rule, labels_round, along}

-- 2, of the two tables that a mesh is: one has another length than n asks
unfoldable pub wrong_lengths : ℕ → List ℕ → List ℕ → Bool
wrong_lengths n ts ws = not (eqb (length ts) (triangles_length n) && eqb (length ws) (wood_length n))

-- 3: the corner at p is no vertex
abbrev pub corner_fault : ℕ → List ℕ → ℕ → Bool
corner_fault n ts p = leb n (from ts p)

-- 4: the corner at p is the next one too
abbrev pub equal_fault : List ℕ → ℕ → Bool
equal_fault ts p = eqb (from ts p) (to ts p)

-- 5: the side at p occurs before
abbrev pub repeat_fault : List ℕ → ℕ → Bool
repeat_fault ts p = ltb (side_at ts (from ts p) (to ts p)) p

-- 6: the reverse of the side at p is nowhere
abbrev pub reverse_fault : List ℕ → ℕ → Bool
reverse_fault ts p = leb (length ts) (side_at ts (to ts p) (from ts p))

-- 7: no triangle is (0,2,1), turned in any way
unfoldable pub outer_fault : (ℕ → ℕ → ℕ) → Bool
outer_fault x = not (eqb (x 0 2) 1)

-- 8: v has no triangle, or a turn round it misses one
unfoldable pub turn_fault : ℕ → (ℕ → ℕ → ℕ) → ℕ → Bool
turn_fault n x v = not (some (is_neighbour n x v) n) || some (λ b. is_neighbour n x v b && not (meets n x v b)) n

-- 9: one of the anchors' nine indices holds something else, or a target is no vertex
abbrev pub anchor_edge_fault : List ℕ → ℕ → Bool
anchor_edge_fault ws i = not (eqb (target ws i) (at anchor_targets i))

abbrev pub target_fault : ℕ → List ℕ → ℕ → Bool
target_fault n ws e = leb 9 e && leb n (target ws e)

unfoldable pub wood_fault : ℕ → List ℕ → Bool
wood_fault n ws = some (anchor_edge_fault ws) 9 || some (target_fault n ws) (3 * n)

-- 10: edge e joins vertices that are not neighbours; or it joins a pair that a lower edge joins
abbrev pub join_fault : ℕ → (ℕ → ℕ → ℕ) → List ℕ → ℕ → Bool
join_fault n x ws e = used e && not (is_neighbour n x (source e) (target ws e))

abbrev pub pair_fault : List ℕ → ℕ → Bool
pair_fault ws e = used e && some (λ d. used d && same_pair ws d e) e

unfoldable pub edge_fault : ℕ → (ℕ → ℕ → ℕ) → List ℕ → Bool
edge_fault n x ws = some (join_fault n x ws) (3 * n) || some (pair_fault ws) (3 * n)

-- 11: an inner vertex's edge e ends at an anchor of another number than its colour
abbrev pub anchor_fault : List ℕ → ℕ → Bool
anchor_fault ws e = leb 9 e && (ltb (target ws e) 3 && not (eqb (colour e) (target ws e)))

-- 12: the turn rule, at each inner vertex
abbrev pub turn_rule_fault : ℕ → (ℕ → ℕ → ℕ) → List ℕ → ℕ → Bool
turn_rule_fault n x ws v = leb 3 v && not (turn_rule 0 (labels_round n x ws v))

-- 13: from v some colour does not come to its anchor; n steps suffice, since a path that ends repeats no vertex
unfoldable pub path_fault : ℕ → List ℕ → ℕ → Bool
path_fault n ws v = leb 3 v && some (λ c. not (eqb (iterate (along ws c) n v) c)) 3

-- the ladder of the triangles, and of the wood over triangles with the third corners x
abbrev pub table_ladder : ℕ → List ℕ → List Rung
table_ladder n ts =
    rung 3 (some (corner_fault n ts) (length ts)) ∷
    rung 4 (some (equal_fault ts) (length ts)) ∷
    rung 5 (some (repeat_fault ts) (length ts)) ∷
    rung 6 (some (reverse_fault ts) (length ts)) ∷
    rung 7 (outer_fault (third ts)) ∷
    rung 8 (some (turn_fault n (third ts)) n) ∷ []

abbrev pub wood_ladder : ℕ → (ℕ → ℕ → ℕ) → List ℕ → List Rung
wood_ladder n x ws =
    rung 9 (wood_fault n ws) ∷
    rung 10 (edge_fault n x ws) ∷
    rung 11 (some (anchor_fault ws) (3 * n)) ∷
    rung 12 (some (turn_rule_fault n x ws) n) ∷
    rung 13 (some (path_fault n ws) n) ∷ []

-- 1, and 2 by the lengths of the tables that a call takes, come before everything else
abbrev pub sized : ℕ → Bool → List Rung → List Rung
sized n wrong rest = rung 1 (out_of_range n) ∷ rung 2 wrong ∷ rest

-- 3 to 13, of a mesh; and the whole ladder
abbrev pub mesh_ladder : ℕ → List ℕ → List ℕ → List Rung
mesh_ladder n ts ws = table_ladder n ts ++ wood_ladder n (third ts) ws

abbrev pub ladder : ℕ → List ℕ → List ℕ → List Rung
ladder n ts ws = sized n (wrong_lengths n ts ws) (mesh_ladder n ts ws)

-- the number that a mesh meets first, 0 where it is accepted
unfoldable pub verdict : ℕ → List ℕ → List ℕ → ℕ
unfolding first_of out_of_range wrong_lengths outer_fault turn_fault wood_fault edge_fault path_fault first_from first some iterate tabulate_from tabulate next side_at third first_neighbour meets turn_length used colour_to label_of same_pair turn_rule labels_round along
verdict n ts ws = first_of (ladder n ts ws)

-- no fault of the triangles applies; none of the wood; none at all
abbrev pub TableClear : ℕ → List ℕ → Type 0
TableClear n ts = NoneApplies (table_ladder n ts)

abbrev pub WoodClear : ℕ → (ℕ → ℕ → ℕ) → List ℕ → Type 0
WoodClear n x ws = NoneApplies (wood_ladder n x ws)

abbrev pub Clear : ℕ → List ℕ → List ℕ → Type 0
Clear n ts ws = NoneApplies (ladder n ts ws)
