pub mod Asked
pub mod Masks
pub mod Joins
pub mod Places
pub mod Left
pub mod Own
