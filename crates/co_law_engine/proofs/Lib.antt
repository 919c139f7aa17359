pub mod Keys
pub mod SeenAlike
pub mod SetsMade
pub mod YesTells
