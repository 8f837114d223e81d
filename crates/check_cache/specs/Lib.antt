pub mod Facts
pub mod Pairs
pub mod Places
pub mod Wanted
