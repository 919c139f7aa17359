pub mod Onward
pub mod Files
pub mod Overlays
pub mod TornFiles
pub mod Wholes
pub mod Dues
