-- A bus's list and its text, and the text of a whole file.
pub mod Buses
pub mod Files
