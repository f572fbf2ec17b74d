-- Laws about an array's text that belong to no one function.
pub mod ReadingLaws
pub mod FieldLaws
pub mod AnswerLaws
pub mod LinesLaws
pub mod RebuildLaws
pub mod ArrayExample
