-- What the contracts of the questions cite beside crate mesh's readings.
pub mod Order
pub mod Stops
pub mod Answers
