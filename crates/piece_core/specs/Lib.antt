pub mod Pieces
pub mod Values
pub mod Answer
pub mod Faults
pub mod Parts
pub mod Rooms
