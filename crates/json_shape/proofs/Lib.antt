pub mod ListLaws
pub mod PathLaws
pub mod TextLaws
pub mod NoneLaws
