-- The laws of hexadecimal digits, and of a bus's line.
pub mod Digits
pub mod Lines
