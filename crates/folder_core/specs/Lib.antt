pub mod Record
pub mod Changes
pub mod Growth
pub mod Spooling
pub mod Journals
pub mod Places
pub mod Quotes
pub mod Trees
