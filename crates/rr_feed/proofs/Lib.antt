pub mod SearchLemmas
pub mod PieceLemmas
pub mod HandLemmas
pub mod FedLemmas
