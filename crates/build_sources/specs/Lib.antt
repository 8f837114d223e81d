pub mod Documents
pub mod Rows
pub mod Known
pub mod Sources
pub mod Modules
