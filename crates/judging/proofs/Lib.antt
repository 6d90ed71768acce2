pub mod EmptyImage
pub mod Checked
pub mod Judged
