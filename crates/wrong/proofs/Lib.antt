-- What each of the wrong controllers fails.
pub mod Refuted
