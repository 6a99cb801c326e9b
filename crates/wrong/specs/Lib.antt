-- The wrong controllers. What each fails is in proofs/Refuted.
pub mod Designs
pub mod Controllers
