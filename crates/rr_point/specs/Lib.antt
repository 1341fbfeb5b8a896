pub mod Prefix
pub mod Point
pub mod Key
