pub mod LockedState
pub mod Locked
pub mod Undecided
pub mod Standing
