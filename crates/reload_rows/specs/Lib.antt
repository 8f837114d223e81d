pub mod Own
pub mod OneDropped
