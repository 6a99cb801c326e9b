-- The laws of the buses' texts.
pub mod Buses
