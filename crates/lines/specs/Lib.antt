pub mod Lines
pub mod Frames
pub mod Session
pub mod Reached
