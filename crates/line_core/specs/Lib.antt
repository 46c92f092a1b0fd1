pub mod Json
pub mod Labels
pub mod Listed
pub mod Messages
pub mod Objects
pub mod Totals
