pub mod Growing
pub mod Tail
pub mod Cut
