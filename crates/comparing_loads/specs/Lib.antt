-- What a test of equality tells of loads and ring states.
pub mod Same
