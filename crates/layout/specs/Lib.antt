-- The laws of the sheet's layout.
pub mod Layout
