-- The laws of a served call's line.
pub mod Lines
pub mod Served
