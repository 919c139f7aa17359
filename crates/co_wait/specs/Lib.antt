pub mod Chains
pub mod Knots
pub mod Holding
pub mod Searching
pub mod Testing
pub mod Text
