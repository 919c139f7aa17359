pub mod Handing
pub mod EitherWay
pub mod Keeping
