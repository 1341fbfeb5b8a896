pub mod Counted
pub mod Stream
pub mod Fault
pub mod Failing
pub mod ReadsToEnd
