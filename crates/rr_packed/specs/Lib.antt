pub mod Slots
pub mod Sparse
pub mod LoneSamples
pub mod PackedRows
pub mod BlockRows
pub mod Blocks
pub mod PackedCells
