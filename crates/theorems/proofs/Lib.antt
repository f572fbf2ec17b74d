-- The theorems, to be read from their ends: Acceptance (a verdict of 0 is a mesh), Demand2, Demand3, Pieces.

-- The geometry of an accepted mesh: positions that turn round vertices, labels on them, and how both come from the verdict.
pub mod Rotation
pub mod Coloured
pub mod Marked
pub mod Accepted
-- Acceptance, verdict by number, Euler's count.
pub mod Acceptance
-- Demand 2: the Fronts and Backs by positions, Target's walk, the questions put to the array, and the demand itself.
pub mod Fronts
pub mod Back
pub mod Target
pub mod Answers
pub mod Demand2
-- Demand 3: the rebuild.
pub mod Rebuilding
pub mod Demand3
-- P1 to P10, and the other pieces.
pub mod Pieces
