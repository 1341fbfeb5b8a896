pub mod Fault
pub mod Version
pub mod CellText
pub mod Reading
pub mod Page
pub mod PageReading
pub mod Laws
pub mod Found
