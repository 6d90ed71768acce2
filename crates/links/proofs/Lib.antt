pub mod Found
pub mod Planned
pub mod Outcome
