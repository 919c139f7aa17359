pub mod Touching
pub mod Indexed
pub mod Holding
pub mod Listed
