pub mod Rows
pub mod Cleared
pub mod Tables
pub mod Outcome
