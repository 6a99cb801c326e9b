-- What a user cares about: that the statements of specs/Statements hold.
pub mod Settled
pub mod Closing
pub mod Outward
pub mod CutSets
pub mod Figures
pub mod Exposure
pub mod Recipe
pub mod Numbers
pub mod EmptyFile
