pub mod Constants
pub mod Entities
pub mod Folding
pub mod Memory
pub mod Sizes
pub mod Names
pub mod Types
