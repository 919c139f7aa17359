pub mod Old
pub mod Kept
pub mod Unseen
pub mod Last
pub mod Seen
pub mod Stands
pub mod Reading
