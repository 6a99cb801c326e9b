-- The laws of tests, by cases of what is tested, and of searches.
pub mod Tests
pub mod Searches
