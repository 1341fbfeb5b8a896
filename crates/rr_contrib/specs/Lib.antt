pub mod Contributions
pub mod ContributionOrder
pub mod Samples
pub mod Validity
