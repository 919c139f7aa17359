pub mod LogText
pub mod Gate
