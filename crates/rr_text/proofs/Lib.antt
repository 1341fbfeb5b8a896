pub mod CutLemmas
pub mod DigitsLemmas
pub mod RepeatLemmas
