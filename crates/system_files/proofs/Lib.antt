pub mod Printing
pub mod Splits
pub mod Inputs
