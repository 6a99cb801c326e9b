-- What is claimed of a controller: the demands, and the records that are made. Nothing is proved here.
pub mod Demand3
pub mod Demand2
pub mod Records
pub mod Scans
pub mod Bookings
pub mod Returns
pub mod Locks
