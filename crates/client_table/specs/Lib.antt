pub mod Showing
pub mod Rows
