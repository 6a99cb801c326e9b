-- The laws of rates.
pub mod Tests
pub mod Places
