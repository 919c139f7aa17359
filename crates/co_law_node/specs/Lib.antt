pub mod WholeMembers
pub mod WholeCoords
pub mod Writable
pub mod WholeNodes
pub mod Causes
