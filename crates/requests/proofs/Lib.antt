pub mod Asked
pub mod Counted
pub mod Searched
