pub mod Commands
pub mod Made
