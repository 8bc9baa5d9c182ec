pub mod Listing
pub mod Turns
