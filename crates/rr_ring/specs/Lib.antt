pub mod StoredRows
pub mod Blocks
pub mod Positions
pub mod Ring
pub mod RingCells
