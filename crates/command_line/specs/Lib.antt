pub mod Asked
pub mod Given
pub mod Names
pub mod Words
