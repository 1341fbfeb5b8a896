pub mod TakingLemmas
pub mod MeaningLemmas
pub mod ReplayLemmas
pub mod OriginLemmas
pub mod LawLemmas
