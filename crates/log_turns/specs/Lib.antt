pub mod Turned
pub mod Changed
