-- The laws of the standing commands.
pub mod Standing
