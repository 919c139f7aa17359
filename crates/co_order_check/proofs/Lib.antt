pub mod Telling
pub mod Ranking
pub mod Walking
pub mod Casing
pub mod Looping
pub mod Serving
pub mod Refuting
