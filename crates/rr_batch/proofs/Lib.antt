pub mod OriginLemmas
pub mod RefusalLemmas
pub mod RefusalTextLemmas
pub mod PeerLemmas
pub mod PieceLemmas
