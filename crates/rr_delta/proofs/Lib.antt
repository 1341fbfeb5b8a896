pub mod Walks
pub mod HeldLemmas
pub mod SummaryLemmas
pub mod DifferenceLemmas
pub mod LawLemmas
