pub mod CountLemmas
pub mod StreamLemmas
