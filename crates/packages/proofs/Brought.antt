pub mod Readied
pub mod Services
pub mod Joined
pub mod OwnRows
pub mod Left
pub mod ShortCheck
pub mod Accepted
