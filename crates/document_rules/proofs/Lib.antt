pub mod OneDiagnosis
pub mod OneImportList
