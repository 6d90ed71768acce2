pub mod Agree
pub mod Counts
pub mod Effect
pub mod Card
pub mod Theorems
pub mod Unseen
pub mod Examples
