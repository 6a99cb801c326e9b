-- The controllers that are wrong about bookings. What each fails is in proofs/Refuted.
pub mod Controllers
