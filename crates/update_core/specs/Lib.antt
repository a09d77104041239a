pub mod Endings
pub mod Updates
