pub mod NameLaws
pub mod SideLaws
pub mod ChangeLaws
pub mod PairLaws
