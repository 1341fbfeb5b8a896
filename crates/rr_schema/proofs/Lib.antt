pub mod Rising
pub mod ChoiceLemmas
pub mod PlaceLemmas
pub mod Checked
pub mod SchemaBytesLemmas
pub mod AfterLemmas
pub mod AddedLemmas
pub mod AdditionLemmas
