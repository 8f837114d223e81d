pub mod ExpressionMemory
pub mod FirstTokens
pub mod LastTokens
pub mod StatementMemory
pub mod TypeMemory
