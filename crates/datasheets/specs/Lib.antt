-- What the bytes of a stored case stand for: the rates of parts.
pub mod Rates
