pub mod Fault
pub mod Items
pub mod Feed
pub mod Next
pub mod Handing
pub mod Laws
