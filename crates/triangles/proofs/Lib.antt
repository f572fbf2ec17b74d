-- Laws that belong to no one function, by what they serve.

-- What the check of the triangles says to a caller.
pub mod CheckedLaws
-- Searches over positions, and the corners that stand there: numbers 3 to 7.
pub mod SearchLaws
mod CornerLaws
-- Number 8: one turn that meets all, whether it is back early, the sides counted, and these put together.
mod OrbitLaws
mod BackLaws
mod TallyLaws
mod TurnLaws
