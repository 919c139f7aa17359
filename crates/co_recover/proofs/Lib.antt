pub mod Ascending
pub mod Finding
pub mod Folds
pub mod Holding
pub mod Keyed
pub mod Meeting
pub mod PlainLocks
