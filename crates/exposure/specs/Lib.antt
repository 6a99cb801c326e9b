-- The sheet of minimal cut sets as the reckoning reads it, byte by byte. The laws of that are in proofs/.
pub mod Bytes
