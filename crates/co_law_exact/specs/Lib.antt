pub mod Votes
pub mod Deciding
pub mod Events
