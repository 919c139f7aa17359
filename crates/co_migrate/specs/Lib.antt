pub mod Telling
pub mod Planning
pub mod Refilling
pub mod Migrating
pub mod Kept
pub mod Images
