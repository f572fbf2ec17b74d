-- An array's text in definitions that compute: what it means, and what `answers` and `rebuildlines` write for it.
pub mod ArrayText
pub mod AnswerLines
pub mod RebuildLines
