pub mod Noted
pub mod Keyed
pub mod Memory
