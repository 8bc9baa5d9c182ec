pub mod Forms
pub mod Meeting
pub mod Whole
pub mod Again
pub mod Closing
pub mod Lending
pub mod Packed
pub mod Turns
