-- Why a failed test refutes a demand: runs that can be computed, a test for every claim, and that a controller which meets the demand
-- fails none.
pub mod Runs
pub mod Claims
pub mod Refuted
pub mod Facts
