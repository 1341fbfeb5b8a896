pub mod PartLemmas
pub mod GivenLemmas
pub mod CellLemmas
pub mod ReadingLemmas
pub mod TextLemmas
pub mod FollowLemmas
