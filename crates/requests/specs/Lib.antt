pub mod Asked
pub mod Asks
