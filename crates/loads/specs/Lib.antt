-- What the bytes of a stored case stand for: loads and ring states.
pub mod Loads
