pub mod Once
pub mod Costs
pub mod Records
