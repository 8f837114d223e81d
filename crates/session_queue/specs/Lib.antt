pub mod Waiting
pub mod IdSet
