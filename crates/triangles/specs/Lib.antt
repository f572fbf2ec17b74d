-- What the contracts of the triangles' check cite beside crate mesh's definitions.
pub mod Table
pub mod Turns
pub mod Checked
