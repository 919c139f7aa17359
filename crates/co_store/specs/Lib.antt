pub mod Images
pub mod StoreState
pub mod Shown
