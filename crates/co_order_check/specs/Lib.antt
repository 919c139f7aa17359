pub mod Reads
pub mod Order
pub mod Ranks
pub mod Paths
pub mod Facts
pub mod Torn
