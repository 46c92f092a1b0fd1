pub mod Calls
pub mod Faults
pub mod Lasting
pub mod Reads
pub mod Reservations
pub mod Runs
pub mod Tables
pub mod Writes
