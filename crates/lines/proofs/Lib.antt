pub mod Text
pub mod Digits
pub mod Columns
pub mod Frames
pub mod Holding
pub mod Session
pub mod Paper
pub mod Reached
