-- What the contracts of the wood's check cite beside the definitions of mesh and tables. A caller needs `Checked` alone; the others are
-- what the parts ask and answer.
pub mod Checked
pub mod Positions
pub mod Pairs
pub mod Sectors
pub mod Paths
