pub mod Svg
pub mod WellFormed
