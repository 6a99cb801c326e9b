-- The laws of the operations' texts.
pub mod Operations
