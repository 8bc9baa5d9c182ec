pub mod Along
pub mod Left
pub mod Chunks
pub mod Opened
pub mod Turns
pub mod Going
pub mod Decided
