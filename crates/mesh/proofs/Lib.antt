-- Laws about the definitions of specs/, for whoever proves something over them.

-- Tests and case splits, the search, counting, iteration, lists given by a function.
pub mod Tests
pub mod Search
pub mod Ranges
pub mod Count
pub mod Iterate
pub mod Lists
pub mod Limits
pub mod SameList
-- The triangle table: positions and sides, sides in pairs, one turn round a vertex.
pub mod Positions
pub mod Paired
pub mod Round
-- The wood: labels, the turn rule as a law of neighbouring labels, paths along one colour.
pub mod Labels
pub mod TurnRule
pub mod Paths
-- Ladders of numbers, and the mesh's; Target's walk on any array.
pub mod Ladder
pub mod Verdict
pub mod Walk
-- The rebuild: what a place of the references writes, and what is said of the decoded mesh.
pub mod Written
pub mod Says
-- Small examples that compute.
pub mod Samples
