-- Laws of the questions, by what they are about.

-- The order that all of them share; a float that is finite; Point's refusals; a turn of a walk.
pub mod OrderLaws
pub mod FiniteLaws
pub mod PointLaws
pub mod WalkLaws
-- That a contract fixes its answer.
pub mod AnswerLaws
