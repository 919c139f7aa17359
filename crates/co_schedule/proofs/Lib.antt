pub mod Begun
pub mod Spaced
pub mod Cutting
pub mod Numbers
pub mod Steps
pub mod Texts
pub mod Hex
pub mod Views
pub mod Fitting
pub mod Complete
pub mod Unique
pub mod EventLaws
pub mod Heads
pub mod Filling
pub mod NextLine
pub mod HeadUnique
mod Heard
