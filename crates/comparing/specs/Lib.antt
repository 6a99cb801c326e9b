-- What a test of equality tells.
pub mod Comparing
