-- What is accepted, and what each number says. Read the statements in Ladder (`verdict_number`, `verdict_none`, `verdict_among`), in
-- Meshes (`accepted_is_mesh`, `mesh_is_accepted`) and in Euler (`euler`); the other files take the tests and the sentences of a mesh
-- one group at a time.
pub mod Ladder
pub mod Corners
pub mod Table
pub mod Edges
pub mod Paths
pub mod Turns
pub mod Labels
pub mod Rules
pub mod Meshes
pub mod Numbers
pub mod Carried
pub mod Euler
