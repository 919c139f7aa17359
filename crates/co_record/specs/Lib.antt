pub mod Format
pub mod Spelling
pub mod Reading
pub mod Lent
pub mod Slices
pub mod Stored
pub mod Marks
