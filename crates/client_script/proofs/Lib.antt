pub mod PieceLaws
pub mod ScriptLaws
pub mod WordLaws
