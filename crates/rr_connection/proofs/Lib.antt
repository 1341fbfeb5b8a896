pub mod StreamLemmas
pub mod EventLemmas
pub mod RefusalLemmas
pub mod SendLemmas
pub mod AnswerLemmas
pub mod PieceLemmas
