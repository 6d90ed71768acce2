pub mod Over
pub mod Parts
pub mod Words
pub mod Same
pub mod Area
pub mod Lists
