pub mod Spelling
pub mod Grammar
pub mod Items
pub mod Faults
pub mod Rows
