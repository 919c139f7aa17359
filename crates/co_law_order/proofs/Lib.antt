pub mod Thinning
pub mod Transfers
pub mod Locality
pub mod Joined
pub mod Necessity
pub mod Exactness
