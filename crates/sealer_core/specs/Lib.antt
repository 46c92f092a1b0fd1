pub mod Complaints
pub mod Group
pub mod Life
pub mod Piping
pub mod Restored
pub mod Sealing
pub mod Theorem
