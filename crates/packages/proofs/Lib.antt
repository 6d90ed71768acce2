pub mod Checks
pub mod Placed
pub mod Dropped
pub mod Brought
pub mod Loaded
pub mod Replaced
pub mod Removed
pub mod Answered
