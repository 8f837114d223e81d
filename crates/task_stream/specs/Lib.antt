pub mod Pieces
pub mod Showing
pub mod Waiting
