-- The parts of a ring by their places, their further faults in a health's arrays, and which of them are on no path.
pub mod Places
pub mod Idle
