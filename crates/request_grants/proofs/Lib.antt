pub mod Kept
pub mod Entries
pub mod Places
pub mod Grant
pub mod Rewritten
pub mod Slots
pub mod Placed
pub mod Chosen
