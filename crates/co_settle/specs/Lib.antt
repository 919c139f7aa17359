pub mod Reached
pub mod Busy
pub mod Notes
pub mod Progress
pub mod Settled
pub mod Turning
