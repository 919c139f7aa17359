pub mod Rule
pub mod Minimal
