-- The laws of a run's first line.
pub mod Heads
