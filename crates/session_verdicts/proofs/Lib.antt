pub mod DocumentLaws
pub mod Framing
pub mod Judged
