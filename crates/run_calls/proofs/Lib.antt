pub mod Decoding
pub mod Sound
pub mod Making
