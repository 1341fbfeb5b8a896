pub mod Results
pub mod Options
pub mod Bytes
pub mod Text
pub mod Digits
pub mod Refusal
