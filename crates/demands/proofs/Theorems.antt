-- What a user cares about: the statements hold.
pub mod Demand3
pub mod Demand2
pub mod Records
pub mod Scans
pub mod Bookings
pub mod Returns
pub mod Locks
