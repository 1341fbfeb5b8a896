pub mod Streams
pub mod Clock
pub mod Calls
pub mod Visits
pub mod Halt
pub mod Pace
pub mod Faults
