pub mod Dropped
pub mod Changes
