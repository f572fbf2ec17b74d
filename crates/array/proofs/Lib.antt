-- Laws that belong to no one function of the build.
pub mod FillLaws
pub mod CheckLaws
pub mod BuildLaws
