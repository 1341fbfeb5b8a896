pub mod Fault
pub mod Snapshot
pub mod SnapshotReading
pub mod Stream
pub mod Saving
pub mod TextLaws
pub mod Loading
pub mod Laws
