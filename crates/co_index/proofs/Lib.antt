pub mod Keys
pub mod Putting
pub mod Laying
pub mod Listed
pub mod Least
pub mod LeastNumber
mod Walking
mod Touching
mod Indexing
mod OneKey
mod Holding
