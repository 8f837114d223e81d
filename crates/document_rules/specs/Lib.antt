pub mod Sentence
pub mod Diagnosed
pub mod Imports
