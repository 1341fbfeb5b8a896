pub mod Requests
pub mod Refused
pub mod Stands
pub mod Receiving
pub mod Answer
pub mod Answering
pub mod Pieces
pub mod Wants
