mod RowTrees
mod RowViews
mod ViewRows
pub mod OneList
pub mod Seen
pub mod AgreeNames
mod AgreeExpressions
mod AgreeTypes
mod AgreeRows
mod AgreeExpressionRules
mod AgreeDeclarations
mod AgreeTypeRules
mod AgreeStatements
mod AgreeSections
mod AgreeProcedures
pub mod AgreeModule
pub mod Foreign
