-- What the contracts of the shared crate, and of those above it, cite beside crate mesh's definitions.
pub mod Refusal
pub mod Hand
pub mod Corners
pub mod Turning
pub mod Checked
pub mod Edge
pub mod Label
