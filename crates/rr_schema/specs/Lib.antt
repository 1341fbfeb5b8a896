pub mod Origin
pub mod Schema
pub mod Fault
pub mod Check
pub mod Choice
pub mod SchemaBytes
pub mod Added
