pub mod Calls
pub mod Standing
pub mod Answered
pub mod Attached
pub mod Counting
pub mod Pins
