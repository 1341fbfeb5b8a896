pub mod ClockLemmas
pub mod CallsLemmas
pub mod VisitsLemmas
