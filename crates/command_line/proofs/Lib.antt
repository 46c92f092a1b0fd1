pub mod Bad
pub mod Ended
pub mod Pieces
pub mod Written
