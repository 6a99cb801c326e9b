-- A set of parts that is being made: its parts, whether it is minimal, and its bytes.
pub mod Sets
pub mod Minimal
