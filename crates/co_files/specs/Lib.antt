pub mod Calls
pub mod Paths
pub mod Climb
pub mod Folder
pub mod Seen
