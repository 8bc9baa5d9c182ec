pub mod Read
pub mod Steps
pub mod Surveyed
