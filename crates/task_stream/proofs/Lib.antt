pub mod CutLaws
pub mod PieceLaws
pub mod SameLaws
pub mod WaitingLaws
