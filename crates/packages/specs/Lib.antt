pub mod Conditions
pub mod Decides
pub mod Writes
pub mod Removal
