pub mod Controls
pub mod Labels
pub mod Returns
