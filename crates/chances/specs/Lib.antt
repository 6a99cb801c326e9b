-- The laws of the text of a fault file's chances.
pub mod Chances
