pub mod Areas
pub mod Boots
pub mod Laws
pub mod Surveys
