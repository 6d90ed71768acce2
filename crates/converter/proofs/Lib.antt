pub mod Enlarging
pub mod Laid
pub mod Old
pub mod Parts
pub mod Wider
pub mod Written
