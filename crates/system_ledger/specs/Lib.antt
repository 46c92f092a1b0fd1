pub mod Begun
pub mod Marks
pub mod Older
pub mod Witness
