pub mod ClearLaws
pub mod ToldLaws
