pub mod Pins
pub mod Plans
pub mod Standing
pub mod Conditions
pub mod Checkpoint
pub mod Attaching
pub mod Reading
