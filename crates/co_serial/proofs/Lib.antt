pub mod MapViews
mod RecordRows
mod Families
mod Layers
pub mod RowsInOrder
