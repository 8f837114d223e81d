pub mod CallerLaws
pub mod IdLaws
pub mod QueueLaws
