pub mod SettlingTurns
pub mod SettlingMeasure
pub mod SettledRecords
