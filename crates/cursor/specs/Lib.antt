-- The laws of a run's lines.
pub mod Passed
pub mod Run
