pub mod Names
pub mod Summaries
pub mod Difference
pub mod Listed
pub mod Laws
pub mod Joining
