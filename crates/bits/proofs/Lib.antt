pub mod Loops
pub mod Row
pub mod Tests
pub mod Gathered
pub mod Chains
