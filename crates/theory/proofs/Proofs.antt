-- What only carries proofs.
pub mod Subsets
pub mod Floats
