-- The laws of part codes.
pub mod Codes
pub mod Answers
