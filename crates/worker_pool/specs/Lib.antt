pub mod Backlogs
pub mod Crews
pub mod Inline
pub mod Jobs
pub mod Outcomes
pub mod Plain
pub mod Script
