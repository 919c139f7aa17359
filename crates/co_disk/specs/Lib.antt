pub mod DiskModel
pub mod Kept
pub mod Homes
pub mod Laying
pub mod Faults
pub mod DiskView
pub mod Stops
pub mod Calls
