-- What each case of an answer means: its list, 0 and the values, or the refusal's number alone. A contract says that this list is the
-- reading's; since different answers have different lists (proofs/AnswerLaws), it fixes the answer.
-- Point's values are floats, not numbers: there the contract names the answer itself, by `point_answer`.
use Rattle.std.specs.Prelude.{ℕ, ◌≡◌, List, [], ◌∷◌, cond, eqb, Float}
use Rattle.std.specs.declared.option.Option.{Option}
use Rattle.std.specs.declared.option.Option.TheVariants.{Some, None}
use Rattle.std.specs.declared.result.Result.{Result}
use Rattle.std.specs.declared.result.Result.TheVariants.{Ok, Err}
use Rattle.mesh.specs.Array.{Hand}
use Rattle.mesh.specs.Reading.{fronts_in}
use Rattle.mesh.specs.Point.{coordinate, point_refusal}
use Rattle.tables.specs.declared.refusal.Refusal.{Refusal}
use Rattle.tables.specs.declared.refusal.Refusal.TheVariants.{VertexCount, Length, NoVertex, NotFinite}
use Rattle.tables.specs.Refusal.{number}
use Rattle.questions.specs.declared.array.Edge.{Edge}
use Rattle.questions.specs.declared.answer.Reached.{Reached}
use Rattle.questions.specs.declared.answer.Coordinates.{Coordinates}

-- an edge or a vertex
abbrev pub listed : Result ℕ Refusal → List ℕ
listed (Ok v) = 0 ∷ v ∷ []
listed (Err r) = number r ∷ []

-- an edge of the array, by its index
abbrev pub edge_listed : Result Edge Refusal → List ℕ
edge_listed (Ok e) = 0 ∷ e.index ∷ []
edge_listed (Err r) = number r ∷ []

-- the edge of that index in the array of n vertices with those references
abbrev pub edge_at : ℕ → List ℕ → ℕ → Edge → Type 0
edge_at n refs j e = (e.references.size.vertices ≡ n) × (e.references.fronts.now ≡ refs) × (e.index ≡ j)

-- the index that an edge's Front holds
abbrev pub front_of : Hand → Edge → ℕ
front_of h e = fronts_in e.references.fronts.now h e.index

-- Target's answer carries the number of reads
abbrev pub target_listed : Result Reached Refusal → List ℕ
target_listed (Ok r) = 0 ∷ r.vertex ∷ r.reads ∷ []
target_listed (Err r) = number r ∷ []

-- the Back on the outer triangle, where the definition gives one
abbrev pub unless_0 : ℕ → Option ℕ
unless_0 k = cond (eqb k 0) None (Some k)

-- Point's answer carries the three coordinates as they stand in the table, bit for bit: the value of a finite float fixes its bits,
-- minus zero's too
abbrev pub coordinates_of : List Float → ℕ → Coordinates
coordinates_of cs v = record { x = coordinate cs v 0; y = coordinate cs v 1; z = coordinate cs v 2 }

-- the refusals of Point, by their numbers
abbrev pub point_refused : ℕ → Refusal
point_refused k = cond (eqb k 1) VertexCount (cond (eqb k 2) Length (cond (eqb k 15) NoVertex NotFinite))

unfoldable pub point_answer : ℕ → List Float → ℕ → Result Coordinates Refusal
point_answer n cs v = cond (eqb (point_refusal n cs v) 0) (Ok (coordinates_of cs v)) (Err (point_refused (point_refusal n cs v)))
