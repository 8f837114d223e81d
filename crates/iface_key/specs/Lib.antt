pub mod Keys
pub mod Laws
pub mod Printed
pub mod Read
pub mod ReadTypes
pub mod ReadViews
pub mod Views
