mod Knowing
mod Playing
pub mod Answering
pub mod Joining
pub mod Keeping
pub mod Mapped
pub mod Rolling
