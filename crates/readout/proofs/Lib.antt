pub mod Records
pub mod Rows
pub mod Turns
pub mod Copies
pub mod Writers
