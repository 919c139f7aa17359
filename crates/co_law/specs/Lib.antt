pub mod Refusals
pub mod MessageHomes
pub mod LeftLogs
pub mod WholeInvariants
