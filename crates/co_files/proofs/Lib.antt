pub mod Answered
pub mod Attended
pub mod Files
