-- The laws of the tests of healths.
pub mod Kinds
