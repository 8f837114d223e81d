pub mod Keys
pub mod Sides
