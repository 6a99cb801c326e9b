-- The laws of a bus's cut sets as text.
pub mod Sets
