pub mod Cards
pub mod Packs
pub mod Tells
pub mod Demands
