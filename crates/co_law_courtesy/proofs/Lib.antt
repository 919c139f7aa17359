pub mod Granting
pub mod Courteous
