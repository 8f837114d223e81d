pub mod OneList
pub mod SameLaws
