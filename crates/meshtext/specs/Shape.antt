-- What the code keeps between its steps: the numbers that the sizes of a text meet, a frame that has its place in the output, and the answer
-- that a build leaves.
use Rattle.std.specs.Prelude.{ℕ, ◌≡◌, List, [], ◌++◌, take}
use Rattle.std.specs.declared.result.Result.{Result}
use Rattle.std.specs.declared.result.Result.TheVariants.{Ok, Err}
use Rattle.mesh.specs.Ladder.{first_of}
use Rattle.mesh.specs.Verdict.{wrong_lengths, sized}
use Rattle.mesh.specs.Limits.{references_length, service_length}
use Rattle.mesh.specs.Wood.{anchor_targets}
use Rattle.tables.specs.declared.refusal.Refusal.{Refusal}
use Rattle.tables.specs.declared.size.Size.{Size}
use Rattle.tables.specs.Refusal.{number}
use Rattle.frames.specs.Digits.{number_at}
use Rattle.frames.specs.Frames.{width, refusal_line, array_text}
use Rattle.frames.specs.Put.{Stored}
use Rattle.meshtext.specs.Reading.{triangles_in, targets_in}

-- 1 by n, 2 by the counts of frames, 0 where both are right
unfoldable pub sizes_met : List ℕ → ℕ
sizes_met text =
    let n = number_at width text 2 in
    first_of (sized n (wrong_lengths n (triangles_in width text) (anchor_targets ++ targets_in width text)) [])

-- at most so many bytes at a place of a buffer, and the answer is where they end
pub record Placed (most : ℕ) (bytes : List ℕ) (at : ℕ) (buffer : List ℕ) (r : Result ℕ Refusal) (buffer' : List ℕ) : Type 0 where
  pub next : ℕ
  pub answer : r ≡ Ok next
  pub stored : Stored most bytes at buffer next buffer'

-- the answer's lines, by what a build left in the fronts of two tables
abbrev pub lines_of : Result Size Refusal → List ℕ → List ℕ → List ℕ
lines_of (Ok s) refs service = array_text s.vertices (take (references_length s.vertices) refs) (take (service_length s.vertices) service)
lines_of (Err r) refs service = refusal_line (number r)
