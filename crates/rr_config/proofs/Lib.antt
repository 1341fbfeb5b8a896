pub mod TextsLemmas
pub mod LimitsLemmas
pub mod KeysLemmas
pub mod NodeLimitsLemmas
pub mod RangeLemmas
