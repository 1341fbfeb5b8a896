pub mod Maps
pub mod Laws
pub mod Values
pub mod Sums
pub mod Horizon
