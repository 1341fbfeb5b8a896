pub mod Clock
pub mod Log
pub mod Visits
pub mod Dial
pub mod Shelf
