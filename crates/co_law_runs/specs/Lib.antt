pub mod OnlyTimers
pub mod Finality
