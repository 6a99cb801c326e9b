-- What follows from the definitions alone.
pub mod Tests
pub mod Lists
pub mod Parts
pub mod Distinct
pub mod Choosing
pub mod Sheet
pub mod Reports
pub mod Refusals
pub mod Appended
pub mod Numbers
pub mod Answers
pub mod Calls
pub mod CutSets
pub mod Spaced
pub mod Scans
pub mod Bookings
pub mod Digits
