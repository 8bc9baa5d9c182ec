pub mod Kinds
pub mod Listed
