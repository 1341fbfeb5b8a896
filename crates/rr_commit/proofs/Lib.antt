pub mod GroupingLemmas
pub mod PackingLemmas
pub mod CommittingLemmas
