-- What only carries proofs.
pub mod Geometry
pub mod Paths
pub mod Choosing
