pub mod AsciiLaws
pub mod Characters
pub mod Documents
mod Holding
mod Positions
mod Units
