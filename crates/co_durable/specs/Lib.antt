pub mod Pairs
pub mod Nodes
pub mod Reading
pub mod Recovering
pub mod Laying
pub mod Durable
pub mod Told
pub mod Directory
