-- Laws about digits and frames that belong to no one function.

-- Stores one after the other, and what a writer leaves: in its part, and in the whole buffer.
pub mod StoreLaws
pub mod PutLaws
pub mod PartLaws
-- Digits and frames written, read, and read again after they were written.
pub mod DigitLaws
pub mod DigitReadLaws
pub mod FrameLaws
pub mod FieldLaws
pub mod LineLaws
pub mod Standing
pub mod DigitTrip
pub mod FrameTrip
