pub mod ChaCha20
pub mod Lanes
pub mod Vectors
