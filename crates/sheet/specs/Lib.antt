-- The laws of the sheet's bytes.
pub mod Writing
