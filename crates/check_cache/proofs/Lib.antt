pub mod FilterLaws
pub mod SameLaws
pub mod StoreLaws
