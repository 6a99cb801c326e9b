-- The laws of a load beside its ring.
pub mod Loads
