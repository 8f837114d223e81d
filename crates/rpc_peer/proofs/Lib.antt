pub mod Bodies
pub mod Closing
pub mod ReadAgain
pub mod Taken
