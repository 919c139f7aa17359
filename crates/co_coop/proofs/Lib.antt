pub mod Asked
pub mod Along
pub mod Aborting
pub mod Turning
pub mod Resolving
pub mod Votes
pub mod Remaining
pub mod Ends
