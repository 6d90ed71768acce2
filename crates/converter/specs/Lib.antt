pub mod Converted
pub mod Enlarged
