pub mod BuildLaws
pub mod KeptLaws
pub mod OrderLaws
pub mod SoFar
