pub mod Documents
pub mod Outgoing
pub mod Publishing
