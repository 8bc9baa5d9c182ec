pub mod Answered
pub mod Replies
pub mod Example
