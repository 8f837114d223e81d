pub mod FoldingLaws
pub mod FoldingMemory
