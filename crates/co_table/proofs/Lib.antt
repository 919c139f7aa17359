pub mod Formed
pub mod Columns
pub mod Once
pub mod Appending
