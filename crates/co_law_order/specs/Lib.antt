pub mod Ordering
pub mod OwnParts
pub mod Joining
