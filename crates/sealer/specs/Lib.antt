pub mod Audit
pub mod Names
pub mod Pipes
pub mod Status
