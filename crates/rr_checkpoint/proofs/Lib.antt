pub mod TextLemmas
pub mod WalkLemmas
pub mod LawLemmas
pub mod FileLemmas
pub mod WholeLemmas
