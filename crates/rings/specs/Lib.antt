-- The laws of a word's effect.
pub mod Words
