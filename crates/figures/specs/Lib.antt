-- The laws of adding up the figures, and of comparing them.
pub mod Adding
pub mod Comparing
