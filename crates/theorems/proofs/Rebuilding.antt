-- Demand 3: the references give the mesh back. What a mesh writes at each place, the table that comes of it, and what the rebuild says.
pub mod Chunks
pub mod Lowest
pub mod Permuted
pub mod Written
pub mod Table
pub mod Again
pub mod Same
pub mod RebuiltWood
pub mod Restored
