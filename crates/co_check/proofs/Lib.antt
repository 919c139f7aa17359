pub mod Serially
pub mod Ledgers
pub mod Running
pub mod Entries
pub mod Stages
pub mod Reading
pub mod Plainly
pub mod Texts
pub mod Verdicts
pub mod Splits
pub mod Fronts
mod Notes
mod Hearing
