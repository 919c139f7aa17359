pub mod Consulted
pub mod Turn
pub mod Resolution
pub mod Remains
