pub mod Adding
pub mod Removal
