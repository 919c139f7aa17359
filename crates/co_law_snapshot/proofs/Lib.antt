pub mod Laying
pub mod Views
pub mod Steady
pub mod Alone
pub mod Moves
pub mod LaterDecisions
pub mod Runs
