pub mod Finding
pub mod Mark
pub mod Piece
pub mod Runs
pub mod Spelling
pub mod Numbers
pub mod Comments
pub mod Lexis
