-- What each of the controllers that are wrong about bookings fails.
pub mod Claimed
pub mod Refuted
