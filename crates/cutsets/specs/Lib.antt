-- The search for the minimal cut sets of a bus, size by size, and its sheet.
pub mod Search
pub mod Sizes
pub mod Sheet
