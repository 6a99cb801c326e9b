-- What a stored case says of a call's answer.
pub mod Answers
