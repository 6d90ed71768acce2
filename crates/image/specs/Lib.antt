pub mod Read
pub mod Laid
pub mod Wrote
pub mod Image
