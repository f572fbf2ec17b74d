-- A mesh's text in definitions that compute (SPECIFICATION, section 10): what a text means, that this is exact, what `meshlines` answers,
-- and what the code keeps of a text between its steps.
pub mod Reading
pub mod Exact
pub mod Answer
pub mod Shape
