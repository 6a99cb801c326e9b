-- The laws of the closing phase's codes.
pub mod Marks
pub mod Outward
pub mod Listing
