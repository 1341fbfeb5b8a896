pub mod CutLemmas
pub mod UnquotedLemmas
pub mod JsonRowsLemmas
pub mod ListingLemmas
