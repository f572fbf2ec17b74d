-- What the rebuild's contracts cite beside crate mesh's definitions.
pub mod Decode
pub mod Rebuild
