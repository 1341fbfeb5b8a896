pub mod Orders
pub mod Masks
pub mod Summing
pub mod KeepsValidLemmas
pub mod ValidityLemmas
