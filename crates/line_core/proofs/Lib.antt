pub mod Listings
pub mod Numbers
pub mod Shown
