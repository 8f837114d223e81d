pub mod Pieces
pub mod Verbs
pub mod Lines
pub mod Scripts
pub mod Faults
