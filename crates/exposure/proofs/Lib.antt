-- That the figures over the bytes of a sheet are those of its sets, and what a call then answers.
pub mod Sets
pub mod Calls
