pub mod OneCheck
