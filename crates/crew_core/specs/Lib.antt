pub mod Spending
pub mod Rounds
pub mod Batch
pub mod Lanes
pub mod Places
