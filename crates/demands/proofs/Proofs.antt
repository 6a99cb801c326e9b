-- What only carries proofs.
pub mod Operations
pub mod Steady
pub mod Answering
pub mod Loads
pub mod Booking
pub mod Standing
