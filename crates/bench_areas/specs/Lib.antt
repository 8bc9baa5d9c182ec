pub mod Areas
pub mod Listed
