pub mod Properly
