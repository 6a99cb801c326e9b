-- Which generators may feed, and the table of source priorities.
pub mod Sources
pub mod Table
