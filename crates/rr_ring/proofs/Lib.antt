pub mod PositionLemmas
pub mod RingChangeLemmas
pub mod RingLemmas
