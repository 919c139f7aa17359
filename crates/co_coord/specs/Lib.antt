pub mod Plans
pub mod Standing
pub mod Reading
pub mod Opening
pub mod Restating
