-- What the theorems speak of: the pieces, the faults by number, Euler's count; demands 2 and 3 for a reader.
pub mod Pieces
pub mod Faults
pub mod Numbers
pub mod Demand2
pub mod Euler
pub mod SameMesh
