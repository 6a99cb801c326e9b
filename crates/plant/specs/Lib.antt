-- The laws of the reckoning.
pub mod Feeders
pub mod Buses
pub mod Answer
pub mod Above
