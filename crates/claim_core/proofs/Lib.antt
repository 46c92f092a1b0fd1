pub mod Keeps
pub mod Sums
