pub mod Loop
pub mod Elements
pub mod Codec
pub mod Parts
pub mod Records
pub mod Walks
pub mod Short
pub mod Slices
