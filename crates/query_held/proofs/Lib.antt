pub mod Stack
pub mod Put
pub mod Steps
pub mod Walk
