-- How many bytes of a buffer a read has filled.
pub mod Counts
