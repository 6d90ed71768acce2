pub mod Decided
pub mod Written
