pub mod Found
pub mod Grants
pub mod Tables
pub mod Plan
pub mod Outcome
