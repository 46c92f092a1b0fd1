pub mod KeyFiles
pub mod Labels
pub mod Telling
pub mod Puts
pub mod Files
pub mod Giving
pub mod Unpipings
pub mod Turns
