-- The laws of a ring that is told a file's reports.
pub mod Told
