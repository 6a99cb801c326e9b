-- The laws of what is kept from bus to bus.
pub mod Progress
pub mod Kept
