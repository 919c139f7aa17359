pub mod Forks
pub mod Holding
pub mod Locks
pub mod Places
pub mod Shown
pub mod Upper
pub mod Weighed
