pub mod Above
mod Placing
mod Newest
pub mod Rows
mod Staleness
pub mod Tables
mod Joining
pub mod InOrder
pub mod Ties
mod Ascending
