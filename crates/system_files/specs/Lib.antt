pub mod Kept
pub mod Seen
pub mod Shown
