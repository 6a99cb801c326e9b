-- The laws of a load's figures as text.
pub mod Figures
