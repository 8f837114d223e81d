pub mod First
pub mod Kept
pub mod Looked
pub mod Numbers
pub mod Stand
pub mod Work
