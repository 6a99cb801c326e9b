-- What a user cares about: the laws of the plant that the demands rest on. That the statements hold is in proofs/Theorems.
pub mod Connected
pub mod Completeness
pub mod Feeds
pub mod Interruption
pub mod Locality
pub mod Advance
pub mod Priorities
