pub mod World
pub mod Cells
pub mod Operators
pub mod Words
pub mod Linked
pub mod Expressions
pub mod Statements
pub mod Runs
