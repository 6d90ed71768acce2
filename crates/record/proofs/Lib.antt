pub mod Found
pub mod Sifting
pub mod Others
pub mod Parsed
pub mod ByKind
pub mod Tails
pub mod Readers
pub mod Fronts
pub mod Places
pub mod Alike
pub mod Marks
mod Split
