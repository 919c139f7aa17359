mod Ranging
pub mod Agreeing
mod Leading
