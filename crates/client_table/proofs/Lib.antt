pub mod RowLaws
pub mod ShelfLaws
