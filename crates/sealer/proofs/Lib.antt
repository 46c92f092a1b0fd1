pub mod Pipes
pub mod Statuses
