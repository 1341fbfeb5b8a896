pub mod Answers
pub mod Batches
pub mod Refusals
pub mod Taking
pub mod Peers
pub mod Pieces
pub mod Taken
