pub mod Fault
pub mod Report
pub mod Writing
pub mod Ending
pub mod Orders
pub mod Streams
pub mod Checker
