-- The laws of a walk along an arc.
pub mod Walk
