-- The law of a part of a buffer that is stored as a whole.
pub mod Parts
