pub mod Apart
pub mod Slots
