-- Laws about a mesh's text that belong to no one function.

-- What the reader meets: the text's tests, its sizes, the tables that are filled from it; the array's text.
pub mod ReadingLaws
pub mod SizeLaws
pub mod TableLaws
pub mod ArrayLaws
pub mod AnswerLaws
-- A text is read as what was written, and is written as what was read: what it means is exact.
pub mod TextTrip
pub mod TextBack
pub mod Exact
pub mod RoundTrip
-- The answer as a whole, and the four-vertex piece.
pub mod Answers
pub mod Example
