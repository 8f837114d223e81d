pub mod Ascii
pub mod Code
pub mod Cursor
pub mod Held
pub mod Once
pub mod Position
