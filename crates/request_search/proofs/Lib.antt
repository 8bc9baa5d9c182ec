pub mod Table
pub mod Early
pub mod Grown
