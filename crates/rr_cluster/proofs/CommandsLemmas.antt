-- The lemmas on each command: what the code's step does, and that the models agree on it.
pub mod Schema
pub mod Upgrade
pub mod Node
pub mod Now
pub mod Write
pub mod Page
pub mod Delta
pub mod Deliver
pub mod Bytes
pub mod Save
pub mod Load
pub mod Fetch
