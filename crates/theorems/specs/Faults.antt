-- The faults that building meets, by number.
use Rattle.std.specs.Prelude.{ℕ, List, Bool}
use Rattle.mesh.specs.Ladder.{applies}
use Rattle.mesh.specs.Verdict.{ladder}

-- whether number k applies, asked of the whole input and of nothing before it
abbrev pub fault : ℕ → ℕ → List ℕ → List ℕ → Bool
fault k n ts ws = applies k (ladder n ts ws)
