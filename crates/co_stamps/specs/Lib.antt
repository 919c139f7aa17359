pub mod Bearing
pub mod Stamped
