pub mod Fault
pub mod Found
pub mod Joining
pub mod Taking
pub mod Replaying
pub mod Laws
