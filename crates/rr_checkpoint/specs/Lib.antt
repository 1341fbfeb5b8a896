pub mod Text
pub mod Walk
pub mod Writing
pub mod Laws
