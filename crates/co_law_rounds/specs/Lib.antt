pub mod CanBeSettled
pub mod FairRounds
pub mod Rounds
