-- The laws of the printed run.
pub mod Filling
