pub mod Recovered
pub mod Locked
