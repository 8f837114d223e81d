pub mod Damages
pub mod Frames
pub mod Heads
pub mod Kept
pub mod Limits
pub mod Partial
pub mod Spots
