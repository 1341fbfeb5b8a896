pub mod Order
pub mod Limits
pub mod Promises
pub mod Watch
pub mod Pace
pub mod Connection
pub mod Connections
