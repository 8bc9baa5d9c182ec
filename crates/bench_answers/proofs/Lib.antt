pub mod Replying
pub mod Lasting
pub mod Example
pub mod Opened
