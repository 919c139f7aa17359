pub mod NodeLog
pub mod Writes
pub mod Sizes
pub mod Answers
pub mod Ended
pub mod Rereading
pub mod Batches
pub mod Writing
