-- Controllers made to be wrong, and the calls on which they are tried.
pub mod Designs
pub mod Spoilt
pub mod Instances
pub mod Rows
