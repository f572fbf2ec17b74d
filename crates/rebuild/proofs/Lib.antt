-- Laws of the rebuild, by what they are about.

-- The table that the decoded triangles are written to.
pub mod WritingLaws
-- The mesh built anew and compared; the ends of a rebuild, and that its contract fixes them.
pub mod VerifyLaws
pub mod RebuildLaws
