pub mod Adds
pub mod Bare
pub mod Given
pub mod Memory
pub mod Parts
pub mod Predeclared
pub mod Sets
