pub mod World
pub mod Views
pub mod Locality
pub mod Determined
