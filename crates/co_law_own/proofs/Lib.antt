pub mod Telling
pub mod OwnRun
