pub mod Said
pub mod Meaning
pub mod Returning
pub mod OpenIds
