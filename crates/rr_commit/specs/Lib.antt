pub mod Grouping
pub mod Records
pub mod Packing
pub mod Fault
pub mod Committing
