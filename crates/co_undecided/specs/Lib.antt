pub mod Kept
pub mod Pins
pub mod Represented
