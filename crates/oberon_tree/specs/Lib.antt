pub mod FirstSpans
pub mod Levels
pub mod Memory
pub mod Print
pub mod Spans
pub mod Tokens
pub mod Trees
