pub mod Part
pub mod Whole
pub mod Listed
pub mod Open
pub mod Packed
