-- Laws for whoever proves something over the shared tables.
pub mod EdgeLaws
pub mod RefusalLaws
pub mod CheckedLaws
pub mod SidedLaws
pub mod TableLaws
pub mod HandLaws
pub mod FillLaws
pub mod RungLaws
pub mod LabelLaws
pub mod SizeLaws
