pub mod DocumentLaws
pub mod OutgoingLaws
pub mod Publications
pub mod RoundTrip
pub mod TellingLaws
