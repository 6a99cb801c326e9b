-- The laws of the replies, and of bookings and cancellations.
pub mod Replies
pub mod Booking
