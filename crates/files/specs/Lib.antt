-- The laws of a fault file's checks.
pub mod Sequence
pub mod File
pub mod Served
