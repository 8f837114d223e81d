pub mod Arrays
pub mod Headings
pub mod Inherited
pub mod Origins
pub mod Records
pub mod Variables
