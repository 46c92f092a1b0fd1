mod Taken
pub mod Entries
pub mod Growth
pub mod Sound
pub mod Calls
pub mod Spools
pub mod Started
pub mod Streams
pub mod Back
pub mod Distinct
pub mod Ending
pub mod Line
pub mod Names
pub mod Other
pub mod Parts
pub mod Read
pub mod Shown
