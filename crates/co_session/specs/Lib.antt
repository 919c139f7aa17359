pub mod Clients
pub mod Leaves
