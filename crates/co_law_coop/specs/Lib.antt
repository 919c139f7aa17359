pub mod Consulting
pub mod Blocking
