-- What the contracts of a build and of its fillers cite beside crate mesh's definitions.
pub mod Build
pub mod Fill
