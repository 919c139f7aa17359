pub mod Locking
pub mod Stepping
mod Blocking
mod Fitting
mod Rolling
mod Standing
mod Restoring
