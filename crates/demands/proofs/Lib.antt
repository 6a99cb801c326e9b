-- That our controller meets what the user demands, and how a wrong one is refuted.
pub mod Theorems
pub mod Proofs
pub mod Refuting
