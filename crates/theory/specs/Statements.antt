-- What is claimed of the definitions: what a bus tries, the settled positions, the minimal cut sets, the figures of its chance of a dark
-- hour, the number that is never given, and the file of no bytes. Nothing is proved here.
pub mod Priorities
pub mod Settled
pub mod Outward
pub mod CutSets
pub mod Exposure
pub mod Recipe
pub mod Numbers
pub mod EmptyFile
