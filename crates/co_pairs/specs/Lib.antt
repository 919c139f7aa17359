pub mod Free
pub mod Votes
