-- The laws of the live bookings.
pub mod Live
pub mod Kept
