-- What follows from the definitions.
pub mod Statements
pub mod Theorems
pub mod Proofs
