pub mod Constants
pub mod Insertions
