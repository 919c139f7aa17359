pub mod Picking
pub mod Votes
