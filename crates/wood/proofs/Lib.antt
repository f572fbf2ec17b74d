-- Laws that belong to no one function, by what they serve.

-- What the check of a mesh says to a caller.
pub mod CheckedLaws
-- Numbers 9 and 11, number 10's two halves, the ladder of the wood.
mod TargetLaws
mod PositionLaws
mod PairLaws
mod VerdictLaws
-- Number 12: sectors, one turn, a vertex.
mod SectorLaws
mod RoundLaws
mod VertexLaws
-- Number 13.
mod PathLaws
