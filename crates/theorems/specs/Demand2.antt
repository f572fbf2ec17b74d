-- Demand 2, as a reader should see it: the triangles and the wood on one side, the array's readings on the other.
use Rattle.std.specs.Prelude.{ℕ, ◌-◌, ◌≤◌, ◌≡◌, List, [], ◌∷◌}
use Rattle.mesh.specs.Sides.{third, neighbours}
use Rattle.mesh.specs.Wood.{source, target}
use Rattle.mesh.specs.Mesh.{Edge, Joins}
use Rattle.mesh.specs.Array.{references_of, service_of}
use Rattle.mesh.specs.Reading.{read_source, read_target, read_left_front, read_right_front, read_left_back, read_right_back}

-- the answer is an edge that joins a and b, and it is the only one
pub record AnswersEdgeJoining (n : ℕ) (ws : List ℕ) (a b : ℕ) (answer : List ℕ) : Type 0 where
  pub edge : ℕ
  pub is_edge_holds : Edge n edge
  pub joins : Joins ws edge a b
  pub only : (e : ℕ) → Edge n e → Joins ws e a b → e ≡ edge
  pub answered : answer ≡ 0 ∷ edge ∷ []

-- Every question about edge j, put to the array of the mesh (ts, ws), where w is the third corner left of j and z right of it.
pub record AnswersAsTriangles (n : ℕ) (ts ws : List ℕ) (j w z : ℕ) : Type 0 where
  pub source_is : read_source n j ≡ 0 ∷ source j ∷ []
  -- Target carries its reads, fewer than its target has neighbours
  pub reads : ℕ
  pub target_is : read_target n (references_of n ts ws) (service_of n ts ws) j ≡ 0 ∷ target ws j ∷ reads ∷ []
  pub few_reads : reads ≤ neighbours n (third ts) (target ws j) - 1
  -- the Fronts join the target with the corner on their hand, the Backs the source with it
  pub left_front : AnswersEdgeJoining n ws (target ws j) w (read_left_front n (references_of n ts ws) (service_of n ts ws) j)
  pub right_front : AnswersEdgeJoining n ws (target ws j) z (read_right_front n (references_of n ts ws) (service_of n ts ws) j)
  pub left_back : AnswersEdgeJoining n ws (source j) w (read_left_back n (references_of n ts ws) (service_of n ts ws) j)
  pub right_back : AnswersEdgeJoining n ws (source j) z (read_right_back n (references_of n ts ws) (service_of n ts ws) j)
