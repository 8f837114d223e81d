pub mod ImportNames
pub mod Imported
pub mod OneDocument
