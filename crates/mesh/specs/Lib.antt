-- The garment array in definitions that compute; docs/SPECIFICATION.md says the same in words. Everything is a number or a list of
-- numbers. Read them from the top: the search that every test is made of, the numbers fixed once, the triangles and their sides in
-- pairs, the wood, ladders and the verdict, the mesh as a list of sentences, the array, its readings, Point, the rebuild.
pub mod Search
pub mod Limits
pub mod Sides
pub mod Paired
pub mod Wood
pub mod Ladder
pub mod Verdict
pub mod Mesh
pub mod Array
pub mod Reading
pub mod Point
pub mod Rebuild
