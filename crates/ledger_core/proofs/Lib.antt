pub mod Callers
pub mod Closing
pub mod Heard
pub mod Keeps
pub mod Meetings
pub mod Packing
pub mod Seats
