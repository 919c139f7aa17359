pub mod Notes
pub mod Steps
pub mod Appending
pub mod Latest
pub mod Ordered
pub mod Page
pub mod Texts
pub mod Loops
