pub mod LabelLaws
pub mod Left
pub mod RowLaws
pub mod StatementLaws
