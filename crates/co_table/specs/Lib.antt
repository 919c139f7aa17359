pub mod Place
pub mod Entry
pub mod Table
pub mod Laws
pub mod Told
pub mod Asked
