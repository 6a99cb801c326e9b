-- What follows from the definitions, where must-fail edits of a statement show that it rests on it.
pub mod Theorems
pub mod Proofs
