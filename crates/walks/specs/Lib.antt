-- What the walks meet, and the arrays that they fill.
pub mod Arrays
pub mod Walk
pub mod Breakers
