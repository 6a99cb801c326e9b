-- The laws of the search: the owner of each bus, and what is left to try.
pub mod Owner
pub mod Search
