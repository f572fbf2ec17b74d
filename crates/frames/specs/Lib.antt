-- Frames in definitions that compute: digits, lines, the text of a mesh and of an array, where a line stands, and what a writer leaves
-- in the part of a buffer that it is lent.
pub mod Digits
pub mod Fields
pub mod Frames
pub mod Lines
pub mod Put
