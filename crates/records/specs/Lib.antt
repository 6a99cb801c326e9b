-- The laws of refusal 9.
pub mod Records
