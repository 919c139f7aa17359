pub mod Versions
pub mod Ordered
pub mod Kept
pub mod Chains
pub mod Recents
pub mod Overwritten
pub mod Reading
