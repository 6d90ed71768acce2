pub mod Meaning
pub mod Readable
pub mod Reading
pub mod Listed
pub mod Parsing
pub mod Marks
