pub mod Ordered
pub mod Parts
pub mod Numbers
pub mod Between
