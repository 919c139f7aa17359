pub mod Events
pub mod Naming
pub mod New
pub mod Starting
