pub mod Shapes
pub mod Reading
pub mod Paths
