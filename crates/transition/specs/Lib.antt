-- The laws of a start, a step and a scan.
pub mod Advance
pub mod Replies
