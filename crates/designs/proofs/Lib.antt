-- That the right design is the controller, and what rows show.
pub mod Right
pub mod Rows
