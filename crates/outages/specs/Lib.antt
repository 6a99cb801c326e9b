-- What a walk out from a bus meets, and how many faults leave the bus dark.
pub mod Sides
pub mod Least
