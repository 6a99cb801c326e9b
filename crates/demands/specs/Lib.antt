-- What the user demands of a controller. That ours meets it is in proofs/.
pub mod Statements
pub mod Controller
