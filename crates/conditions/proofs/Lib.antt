pub mod OnTables
pub mod Theorems
