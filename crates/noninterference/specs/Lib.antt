pub mod Alike
pub mod Claims
pub mod Examples
