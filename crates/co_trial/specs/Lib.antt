pub mod Calm
pub mod Decisions
pub mod Ended
pub mod Making
pub mod Playing
pub mod Trials
pub mod Line
