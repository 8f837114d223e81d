pub mod Foldings
