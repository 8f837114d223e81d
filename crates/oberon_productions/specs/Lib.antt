pub mod Expected
pub mod Machine
pub mod Reading
pub mod Tests
